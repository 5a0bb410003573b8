-- What reading at a pixel answers, for every input. Assumes nothing.
use Rattle.std.specs.Prelude.{ℕ, zero, suc, List, [], ◌∷◌, cond, eqb, ℤ, pos}
use Rattle.element_sibson.specs.Fraction.{ℚ, ◌·ℚ◌}
use Rattle.element_sibson.specs.Cubic.{jet, bend}
use Rattle.surface_answers.specs.Answers.{Outcome, answered, refused}
use Rattle.sheet_calls.specs.Refusals.{reading_refusal}
use Rattle.surface_of_sheet.specs.Place.{cell_at, point_at, place}
use Rattle.surface_of_sheet.specs.Surface.{cubic_at, level, tilt_x, tilt_y, bend_xx, bend_xy, bend_yy}

-- the whole numbers of each kind: 0 is the level, 1 the tilt, 2 the bend; a kind above 2 is refused
unfoldable pub numbers : List ℕ → ℕ → ℕ → ℕ → List ℤ
numbers s x y zero = level s x y ∷ []
numbers s x y (suc zero) = tilt_x s x y ∷ tilt_y s x y ∷ []
numbers s x y (suc (suc kind)) = bend_xx s x y ∷ bend_xy s x y ∷ bend_yy s x y ∷ []

-- the exact values that they are rounded from: of the cubic on the pixel's cell and piece the height in grains, the slopes in grains per pixel, the second
-- derivatives in 1/64 grain per pixel per pixel
unfoldable pub exact : List ℕ → ℕ → ℕ → ℕ → List ℚ
exact s x y zero = let p = place s x y in (jet (cell_at s p) (cubic_at s p) (point_at s p)).height ∷ []
exact s x y (suc zero) = let p = place s x y in let j = jet (cell_at s p) (cubic_at s p) (point_at s p) in j.x_slope ∷ j.y_slope ∷ []
exact s x y (suc (suc kind)) = let p = place s x y in let b = bend (cell_at s p) (cubic_at s p) (point_at s p) in pos 64 ·ℚ b.xx ∷ pos 64 ·ℚ b.xy ∷ pos 64 ·ℚ b.yy ∷ []

-- the number of the refusal, or 0 and the whole numbers over the kind's divisor
unfoldable pub read : List ℕ → ℕ → ℕ → ℕ → Outcome
read s x y kind = let n = reading_refusal s x y kind in cond (eqb n 0) (answered kind (numbers s x y kind)) (refused n)
