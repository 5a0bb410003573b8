-- What a reading at a pixel of the mesh returns, over its divisor, and what a run leaves lie within half a unit of the exact values. Assumes nothing.
use Prim.Native.Nat.{ℕ, zero, suc, ◌+◌}
use mathlib.Core.Path.{refl, ◌∙◌}
use mathlib.Core.List.{List, map}
use lib.IntN.{ℤ}
use Rattle.element_sibson.specs.Fraction.{ℚ, whole, half, ◌-ℚ◌}
use Rattle.element_readings.specs.Reading.{level_of, tilt_x_of, tilt_y_of, bend_xx_of, bend_xy_of, bend_yy_of, rounded, ◌withinℚ◌}
use Rattle.element_readings.proofs.Rounded.{half_unit}
use Rattle.sheet_calls.specs.Refusals.{Accepted}
use Rattle.sheet_calls.specs.WellFormed.{Inside}
use Rattle.surface_answers.specs.Answers.{divisor, quotient, answered, FitsFloat}
use Rattle.surface_answers.proofs.Quotients.{quotient_laws}
use Rattle.surface_of_sheet.specs.Place.{place}
use Rattle.surface_of_sheet.specs.Surface.{jet_at, level_at, tilt_x_at, tilt_y_at, bend_xx_at, bend_xy_at, bend_yy_at, level, tilt_x, tilt_y, bend_xx, bend_xy, bend_yy}
use Rattle.surface_of_sheet.specs.Read.{numbers, exact}
use Rattle.surface_of_sheet.specs.Theorems.{HalfUnitFrom, EachPair, HalfUnits}
use Rattle.surface_of_sheet.proofs.Answered.{read_is}
use Rattle.surface_of_sheet.proofs.Runs.{run_laws}
use Rattle.surface_of_sheet.proofs.Sizes.{level_below, small_level, small_tilts, small_bends}

-- a whole number that a float holds, and that lies near x
near_by : (kind : ℕ) (z : ℤ) (x : ℚ) → FitsFloat z → whole z -ℚ x withinℚ half → HalfUnitFrom (divisor kind) (quotient (divisor kind) z) x
near_by kind z x h near = record { number = z; float = quotient_laws.exact kind z h; near = near }

-- of a rounded fraction
abbrev moved : (x : ℚ) → whole (rounded x) -ℚ x withinℚ half
moved = half_unit.distances

module _ (s : List ℕ) (x y : ℕ) (accepted : Accepted s) (inside : Inside s x y) where
  each : (kind : ℕ) → EachPair (HalfUnitFrom (divisor kind)) (map (quotient (divisor kind)) (numbers s x y kind)) (exact s x y kind)
  unfolding level_of tilt_x_of tilt_y_of bend_xx_of bend_xy_of bend_yy_of level_at tilt_x_at tilt_y_at bend_xx_at bend_xy_at bend_yy_at level tilt_x tilt_y bend_xx bend_xy bend_yy numbers exact
  each zero = (near_by 0 _ _ (small_level s x y accepted inside) (moved _), tt)
  each (suc zero) = let (a, b) = small_tilts s x y accepted inside in (near_by 1 _ _ a (moved _), (near_by 1 _ _ b (moved _), tt))
  each (suc (suc k)) = let (a, b, c) = small_bends s x y accepted inside in (near_by 2 _ _ a (moved _), (near_by 2 _ _ b (moved _), (near_by 2 _ _ c (moved _), tt)))

near_level : (s : List ℕ) (x y : ℕ) → whole (level s x y) -ℚ (jet_at s (place s x y)).height withinℚ half
unfolding level_of jet_at level_at level
near_level s x y = half_unit.distances (jet_at s (place s x y)).height

pub half_units : HalfUnits
unfolding answered
half_units = record {
  returned = λ s x y kind a i l r e.
      rw (e ∙ read_is (record { accepted = a; inside = i; kind = l })) (refl, each s x y a i kind);
  runs = λ s x y row e k l. rw (run_laws.levels s x y row e k l) (near_level s (x + k) y);
  levels = level_below;
}
