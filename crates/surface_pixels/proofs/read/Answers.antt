-- `surface_pixels::read` meets its contract. Assumes nothing.
use Rattle.std.proofs.Common.{sym, ap, ◌∙◌}
use Rattle.sheet_calls.proofs.Refused.{number-not_zero}
use Rattle.surface_answers.specs.Answers.{outcome, refused}
use Rattle.surface_of_sheet.proofs.Answered.{taken_is, refused_is}
use Rattle.surface_pixels.proofs.read.Goals as goal

pub returns-in-Ok : goal.returns-in-Ok
returns-in-Ok c = c.in-Ok.ensures.answer ∙ sym (taken_is _ _ _ _ (sym c.in-Ok.ensures.refusal))

pub returns-in-Err : goal.returns-in-Err
unfolding outcome refused
returns-in-Err c =
    let e = c.in-Err.ensures.refusal in
    ap refused (c.number.ensures ∙ e) ∙ sym (refused_is _ _ _ _ (λ z. number-not_zero _ (e ∙ z)))
