-- `light_sheet_c::lvs_bends` meets its contract. Assumes nothing.
use Rattle.std.proofs.Common.{◌∙◌, refl, ap}
use borrow.Author.Tests.{ne_eqb}
use Rattle.surface_bends.specs.Bends.{Tally, tally}
use Rattle.sheet_calls.proofs.Refused.{number-not_zero}
use Rattle.light_sheet_c.specs.Values.{count_over}
use Rattle.light_sheet_c.proofs.lvs_bends.Goals as goal

pub returns-in-Ok-clause-answer : goal.returns-in-Ok-clause-answer
unfolding tally
returns-in-Ok-clause-answer c = ap (λ (t : Tally). t.number) c.in-Ok.ensures.answer

pub returns-in-Ok-clause-pieces : goal.returns-in-Ok-clause-pieces
unfolding tally count_over
returns-in-Ok-clause-pieces c = ap (λ (t : Tally). count_over t c.args.pieces.now) c.in-Ok.ensures.answer

pub returns-in-Err-clause-answer : goal.returns-in-Err-clause-answer
unfolding tally
returns-in-Err-clause-answer c = c.number.ensures ∙ ap (λ (t : Tally). t.number) c.in-Err.ensures.answer

-- a refusal hands out no count
pub returns-in-Err-clause-pieces : goal.returns-in-Err-clause-pieces
unfolding tally count_over
returns-in-Err-clause-pieces c = rw (← c.in-Err.ensures.answer, ne_eqb _ 0 (number-not_zero c.in-Err.refusal)) refl
