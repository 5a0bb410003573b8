-- What a change of a corner's height does to the level at a point of a piece, whatever the rounding to the nearest. Assumes nothing.
use Rattle.std.specs.Prelude.{◌≡◌, T, ℤ, pos, ◌+ℤ◌}
use Rattle.element_sibson.specs.Fraction.{ℚ, ◌≈◌, ◌≤ℚ◌, ◌<ℚ◌, ◌+ℚ◌, ◌-ℚ◌, ◌·ℚ◌, whole, half}
use Rattle.element_sibson.specs.Cubic.{Cell, Point}
use Rattle.element_sibson.specs.Piece.{Piece, triangle, Corner}
use Rattle.element_sibson.specs.Element.{Nodes, element}
use Rattle.element_readings.specs.Reading.{rounded, level_of, ◌withinℚ◌}
use Rattle.element_readings.specs.Bounds.{On}
use Rattle.element_readings.specs.CornerWeights.{nudged, IsAt}
use Rattle.element_reach.specs.Follows.{Follows}

-- ρ rounds to the nearest: it moves a fraction by at most one half, and equal fractions go to the same whole number. Nothing is said of ties
pub record Nearest (ρ : ℚ → ℤ) : Type 0 where
  pub near : (x : ℚ) → whole (ρ x) -ℚ x withinℚ half
  pub alike : {x y : ℚ} → x ≈ y → ρ x ≡ ρ y

pub record NudgeLaws : Type 0 where
  -- the rule of readings is one
  pub ours : Nearest rounded
  -- of a share of z from 0 to 1, 1 not counted, whatever the rounding. A shift by z itself need not pass through it: of −½ and +½ the nearest may be −1 and +1
  pub shares : (ρ : ℚ → ℤ) → Nearest ρ → (x w : ℚ) {y : ℚ} (z : ℤ) → y ≈ x +ℚ z ·ℚ w → whole (pos 0) ≤ℚ w → w <ℚ whole (pos 1) → Follows z (ρ x) (ρ y)
  -- so the level goes with the height at every point of a piece; the share is 1 only at the corner, and there both heights are whole numbers
  pub levels : (C : Cell) (m : Nodes) (c : Corner) (z : ℤ) (k : Piece) (P : Point) → On k P →
      Follows z (level_of C (element C m k) P) (level_of C (element C (nudged c z m) k) P)
  pub there : (C : Cell) (m : Nodes) (c : Corner) (z : ℤ) (k : Piece) (P : Point) → T (triangle k P) → IsAt c P →
      level_of C (element C (nudged c z m) k) P ≡ level_of C (element C m k) P +ℤ z
