-- `surface_runs::done_in` meets its contract. Assumes nothing.
use Rattle.std.proofs.Common.{ℕ, ◌-◌, min, refl, sym, ◌∙◌, ap, rules}
use borrow.Author.Tests.{eq-eqb, ne_eqb}
use Rattle.sheet_calls.proofs.WellFormed.{header_there}
use Rattle.surface_of_sheet.proofs.Cells.{sound}
use Rattle.surface_runs.specs.Strips.{done_in}
use Rattle.surface_runs.proofs.done_in.Goals as goal

pub overflow_add-column : goal.overflow_add-column
overflow_add-column c = let many = (sound _ c.args.sheet.accepted).many_columns in search rules

pub columns-requires : goal.columns-requires
columns-requires c = header_there _ c.args.sheet.accepted

pub returns-then-column-columns : goal.returns-then-column-columns
unfolding done_in
returns-then-column-columns c = rw (eq-eqb _ _ (c.if-column-columns.true ∙ c.columns.ensures.0)) refl

pub returns : goal.returns
unfolding done_in
returns c =
    rw (ne_eqb _ _ (λ q. c.if-column-columns.false (q ∙ sym c.columns.ensures.0))) (c.min.ensures ∙ ap (λ (r : ℕ). min c.args.count (r - c.args.x)) c.requires.1)
