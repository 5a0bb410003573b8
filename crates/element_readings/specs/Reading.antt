-- Readings of a cubic at a point: its height, slopes and second derivatives, each rounded by the rule. Assumes nothing.
use Rattle.std.specs.Prelude.{List, [], ◌∷◌, ℤ, pos, neg_ℤ}
use Rattle.integers.specs.Round.{round}
use Rattle.element_sibson.specs.Fraction.{ℚ, ◌≤ℚ◌, whole, half, ◌-ℚ◌, ◌·ℚ◌}
use Rattle.element_sibson.specs.Cubic.{Cell, Point, Cubic, jet, bend}

-- a fraction rounded by the rule
unfoldable pub rounded : ℚ → ℤ
rounded x = round x.numerator x.denominator.number

-- 01's level: the height, in grains
unfoldable pub level_of : Cell → Cubic → Point → ℤ
level_of C f P = rounded (jet C f P).height

-- 01's tilt (the gradient): the slopes, in grains per pixel
unfoldable pub tilt_x_of : Cell → Cubic → Point → ℤ
tilt_x_of C f P = rounded (jet C f P).x_slope

unfoldable pub tilt_y_of : Cell → Cubic → Point → ℤ
tilt_y_of C f P = rounded (jet C f P).y_slope

-- 01's bend: the second derivatives, in 1/64 grain per pixel per pixel
unfoldable pub bend_xx_of : Cell → Cubic → Point → ℤ
bend_xx_of C f P = rounded (pos 64 ·ℚ (bend C f P).xx)

unfoldable pub bend_xy_of : Cell → Cubic → Point → ℤ
bend_xy_of C f P = rounded (pos 64 ·ℚ (bend C f P).xy)

unfoldable pub bend_yy_of : Cell → Cubic → Point → ℤ
bend_yy_of C f P = rounded (pos 64 ·ℚ (bend C f P).yy)

-- the three of them, in that order
unfoldable pub bends_of : Cell → Cubic → Point → List ℤ
bends_of C f P = bend_xx_of C f P ∷ bend_xy_of C f P ∷ bend_yy_of C f P ∷ []

infix 20 ◌withinℚ◌
-- −y ≤ x ≤ y
pub record ◌withinℚ◌ (x y : ℚ) : Type 0 where
  pub lower : neg_ℤ (pos 1) ·ℚ y ≤ℚ x
  pub upper : x ≤ℚ y

pub record HalfUnit : Type 0 where
  -- a fraction moves by at most half a unit
  pub distances : (x : ℚ) → whole (rounded x) -ℚ x withinℚ half
  -- so every reading lies within half a unit of the exact value
  pub levels : (C : Cell) (f : Cubic) (P : Point) → whole (level_of C f P) -ℚ (jet C f P).height withinℚ half
  pub tilts_x : (C : Cell) (f : Cubic) (P : Point) → whole (tilt_x_of C f P) -ℚ (jet C f P).x_slope withinℚ half
  pub tilts_y : (C : Cell) (f : Cubic) (P : Point) → whole (tilt_y_of C f P) -ℚ (jet C f P).y_slope withinℚ half
  pub bends_xx : (C : Cell) (f : Cubic) (P : Point) → whole (bend_xx_of C f P) -ℚ pos 64 ·ℚ (bend C f P).xx withinℚ half
  pub bends_xy : (C : Cell) (f : Cubic) (P : Point) → whole (bend_xy_of C f P) -ℚ pos 64 ·ℚ (bend C f P).xy withinℚ half
  pub bends_yy : (C : Cell) (f : Cubic) (P : Point) → whole (bend_yy_of C f P) -ℚ pos 64 ·ℚ (bend C f P).yy withinℚ half
