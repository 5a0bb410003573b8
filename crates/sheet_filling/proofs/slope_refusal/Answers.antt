-- `sheet_filling::slope_refusal` meets its contract. Assumes nothing.
use Rattle.std.proofs.Common.{sym, ◌∙◌, ap, rules}
use Rattle.sheet_calls.proofs.Refused.{refused_first}
use Rattle.sheet_slopes.specs.Slopes.{some_too_steep}
use Rattle.sheet_slopes.proofs.Chain.{slope_is}
use Rattle.sheet_filling.proofs.Answers.{stiffness_refused, steepness_answer}
use Rattle.sheet_filling.proofs.slope_refusal.Goals as goal

pub returns-in_err-sheet : goal.returns-in_err-sheet
returns-in_err-sheet c =
    let h = refused_first _ _ (slope_is c.args.sheet.now c.args.stiffness) _ c.in_err-sheet.ensures.refusal in
    search rules

pub returns-then-stiffness-gt64 : goal.returns-then-stiffness-gt64
returns-then-stiffness-gt64 c = stiffness_refused _ _ c.in_ok-sheet.ensures.refusal c.if-stiffness-gt64.true

pub returns-then-some_too_steep : goal.returns-then-some_too_steep
returns-then-some_too_steep c =
    let e = ap (λ b. some_too_steep b.now c.args.stiffness) (sym c.in_ok-sheet.ensures.bytes) in
    steepness_answer _ _ c.in_ok-sheet.ensures.refusal c.if-stiffness-gt64.false (e ∙ sym c.some_too_steep.ensures ∙ c.if-some_too_steep.true)

pub returns : goal.returns
returns c =
    let e = ap (λ b. some_too_steep b.now c.args.stiffness) (sym c.in_ok-sheet.ensures.bytes) in
    steepness_answer _ _ c.in_ok-sheet.ensures.refusal c.if-stiffness-gt64.false (e ∙ sym c.some_too_steep.ensures ∙ c.if-some_too_steep.false)
