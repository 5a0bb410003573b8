-- `surface_places::spot::Spot::new` meets its contract. Assumes nothing.
use Rattle.std.proofs.Common.{true, false, sym, ap, subst, ◌∙◌, rules}
use Rattle.sheet_calls.specs.Refusals.{outside}
use Rattle.sheet_calls.specs.WellFormed.{Inside}
use Rattle.sheet_calls.proofs.Refused.{refused_first}
use Rattle.sheet_calls.proofs.Conditions.{condition_laws}
use Rattle.surface_places.proofs.Spots.{spot_is, spot_answer}
use Rattle.surface_places.proofs.spot.Spot.new.Goals as goal

pub returns-in_err-sheet-clause-refusal : goal.returns-in_err-sheet-clause-refusal
returns-in_err-sheet-clause-refusal c =
    let h = refused_first _ _ (spot_is c.args.sheet.now c.args.x c.args.y) _ c.in_err-sheet.ensures.refusal in search rules

-- the bytes of the lines are those that were passed
pub returns-then-outside-clause-refusal : goal.returns-then-outside-clause-refusal
returns-then-outside-clause-refusal c =
    let a = c.args in let sheet = c.in_ok-sheet.ensures in
    spot_answer _ _ _ true sheet.refusal (c.if-outside.ensures ∙ ap (λ b. outside b.now a.x a.y) (c.of.ensures ∙ sheet.bytes))

pub returns-clause-refusal : goal.returns-clause-refusal
returns-clause-refusal c =
    let a = c.args in let sheet = c.in_ok-sheet.ensures in
    spot_answer _ _ _ false sheet.refusal (c.if-outside.ensures ∙ ap (λ b. outside b.now a.x a.y) (c.of.ensures ∙ sheet.bytes))

pub invariant_of-result : goal.invariant_of-result
invariant_of-result c = record {
  inside = subst (λ b. Inside b.now c.args.x c.args.y) c.of.ensures ((condition_laws.seven _ _ _).0 (sym c.if-outside.ensures));
}
