-- `surface_pixels::reading` meets its contract. Assumes nothing.
use Rattle.std.proofs.Common.{◌∙◌, rules}
use Rattle.sheet_calls.proofs.Refused.{refused_first}
use Rattle.surface_answers.specs.Answers.{answered}
use Rattle.surface_of_sheet.specs.Read.{numbers}
use Rattle.surface_places.proofs.Spots.{reading_by_spot}
use Rattle.surface_pixels.proofs.Refusal.{kind_refused, kind_passed}
use Rattle.surface_pixels.proofs.reading.Goals as goal

-- first what refuses the pixel, by the sheet or by its mesh,
-- and behind that the kind alone
pub returns-in_err-spot : goal.returns-in_err-spot
returns-in_err-spot c = let h = refused_first _ _ (reading_by_spot c.args.sheet.now c.args.x c.args.y c.args.kind) _ c.in_err-spot.ensures.refusal in search rules

pub returns-in_err-kind : goal.returns-in_err-kind
returns-in_err-kind c = let h = kind_refused _ _ _ _ c.in_ok-spot.ensures.refusal c.in_err-kind.ensures in search rules

pub returns-clause-refusal : goal.returns-clause-refusal
returns-clause-refusal c = kind_passed _ _ _ _ c.in_ok-spot.ensures.refusal _ c.in_ok-kind.ensures

pub returns-clause-answer : goal.returns-clause-answer
returns-clause-answer c =
    let spot = c.in_ok-spot.ensures.spot in let kind = c.in_ok-kind.ensures in
    c.answer.ensures ∙ (λ t. answered (kind t) (numbers (spot.0 t).now (spot.1 t) (spot.2 t) (kind t)))
