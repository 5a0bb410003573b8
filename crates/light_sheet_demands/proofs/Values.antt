-- What readings and runs give at the pixels of the mesh, by their records: the height and the derivatives of the element, rounded. Assumes nothing.
use Prim.Native.Nat.{ℕ, ◌+◌, ◌<◌}
use mathlib.Core.Path.{◌≡◌, sym, ◌∙◌}
use mathlib.Core.List.{List, [], ◌∷◌}
use lib.Dec.{lit≤}
use lib.IntN.{ℤ, pos}
use lib.ListN.{length, get_or}
use Rattle.element_sibson.specs.Fraction.{positive, ◌·ℚ◌}
use Rattle.element_readings.specs.Reading.{level_of, tilt_x_of, tilt_y_of, bend_xx_of, bend_xy_of, bend_yy_of, rounded}
use Rattle.sheet_calls.specs.Refusals.{reading_refusal, Accepted}
use Rattle.sheet_calls.specs.WellFormed.{Inside}
use Rattle.sheet_calls.proofs.Chains.{HasPixel}
use Rattle.surface_answers.specs.Answers.{Outcome, outcome, answered}
use Rattle.surface_answers.specs.declared.Answer.{Answer}
use Rattle.surface_of_sheet.specs.Surface.{level_at, tilt_x_at, tilt_y_at, bend_xx_at, bend_xy_at, bend_yy_at, level, tilt_x, tilt_y, bend_xx, bend_xy, bend_yy}
use Rattle.surface_of_sheet.specs.Read.{numbers, read}
use Rattle.surface_of_sheet.proofs.Answered.{read_is}
use Rattle.surface_of_sheet.proofs.Runs.{run_laws}
use Rattle.light_sheet_demands.specs.CallRecords.{Read, FillRun}
use Rattle.light_sheet_demands.specs.Demands.{pixel_jet, pixel_bend, given}
use Rattle.light_sheet_demands.proofs.Refusals.{read_number}

-- what has a reading's number and values is what it gives
pub both_are : (s : List ℕ) (x y kind : ℕ) {o : Outcome} → o.number ≡ reading_refusal s x y kind → o.values ≡ (read s x y kind).values → o ≡ read s x y kind
both_are s x y kind e v = λ t. record { number = (e ∙ sym (read_number s x y kind)) t; values = v t }

-- so at a pixel of the mesh
at_pixel : {s : List ℕ} {x y kind : ℕ} {o : Outcome} → HasPixel s x y kind → o.number ≡ reading_refusal s x y kind → o.values ≡ (read s x y kind).values →
    o ≡ answered kind (numbers s x y kind)
at_pixel h e v = both_are _ _ _ _ e v ∙ read_is h

module _ {s t : List ℕ} {x y : ℕ} {r : Answer} (a : Accepted s) (i : Inside s x y) where
  pub levels_are : Read s x y 0 r t → outcome r ≡ given (positive 64 tt) (rounded (pixel_jet s x y).height ∷ [])
  unfolding level_of level_at level answered numbers
  levels_are c = at_pixel (record { accepted = a; inside = i; kind = lit≤ tt }) c.answer c.values

  pub tilts_are : Read s x y 1 r t → outcome r ≡ given (positive 64 tt) (rounded (pixel_jet s x y).x_slope ∷ rounded (pixel_jet s x y).y_slope ∷ [])
  unfolding tilt_x_of tilt_y_of tilt_x_at tilt_y_at tilt_x tilt_y answered numbers
  tilts_are c = at_pixel (record { accepted = a; inside = i; kind = lit≤ tt }) c.answer c.values

  pub bends_are : Read s x y 2 r t → outcome r ≡ given (positive 4096 tt)
      (rounded (pos 64 ·ℚ (pixel_bend s x y).xx) ∷ rounded (pos 64 ·ℚ (pixel_bend s x y).xy) ∷ rounded (pos 64 ·ℚ (pixel_bend s x y).yy) ∷ [])
  unfolding bend_xx_of bend_xy_of bend_yy_of bend_xx_at bend_xy_at bend_yy_at bend_xx bend_xy bend_yy answered numbers
  bends_are c = at_pixel (record { accepted = a; inside = i; kind = lit≤ tt }) c.answer c.values

pub runs_are : {s t : List ℕ} {x y : ℕ} {row row' : List ℤ} → FillRun s x y row 0 row' t → (k : ℕ) → k < length row →
    get_or row' k (pos 0) ≡ rounded (pixel_jet s (x + k) y).height
unfolding level level_at level_of
runs_are c k l = rw c.levels (run_laws.levels _ _ _ _ (sym c.answer) k l)

-- by a reading's record: number and values are those of the reading that is defined
pub outcome_is : {s t : List ℕ} {x y kind : ℕ} {r : Answer} → Read s x y kind r t → outcome r ≡ read s x y kind
outcome_is c = both_are _ _ _ _ c.answer c.values
