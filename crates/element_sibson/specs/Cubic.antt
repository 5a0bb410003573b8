-- Cubics in a cell's own r and s: their values and derivatives, and the heights, slopes and bends that 01 takes from them. Assumes nothing.
use Rattle.std.specs.Prelude.{ℕ, ℤ, pos, ◌*ℤ◌}
use Rattle.element_sibson.specs.Fraction.{Positive, ℚ, ◌≈◌, ◌+ℚ◌, ◌*ℚ◌, ◌·ℚ◌, ◌÷◌, whole}

-- a cell: its width W and height H in pixels, any whole numbers from 1
pub record Cell : Type 0 where
  pub W : Positive
  pub H : Positive

-- a point in the cell's own r and s: 0 to 1 from the left edge to the right, and from the top edge to the bottom
pub record Point : Type 0 where
  pub r : ℚ
  pub s : ℚ

-- the pixel that lies a and b pixels from the left and the top edge: r = a/W, s = b/H
abbrev pub pixel : Cell → ℕ → ℕ → Point
pixel C a b = record { r = whole (pos a) ÷ C.W; s = whole (pos b) ÷ C.H }

-- a cubic: a polynomial in r and s of total degree at most 3, its ten coefficients whole numbers over a common divisor above 0; cij is that of rⁱsʲ
pub record Cubic : Type 0 where
  pub c00 : ℤ
  pub c10 : ℤ
  pub c01 : ℤ
  pub c20 : ℤ
  pub c11 : ℤ
  pub c02 : ℤ
  pub c30 : ℤ
  pub c21 : ℤ
  pub c12 : ℤ
  pub c03 : ℤ
  pub divisor : Positive

-- the ten powers (monomials) in 01's order, r²s after r³, and the coefficient of each
pub data Power : Type 0 where
  one : Power
  r¹ : Power
  s¹ : Power
  r² : Power
  rs : Power
  s² : Power
  r³ : Power
  r²s : Power
  rs² : Power
  s³ : Power

abbrev pub coefficient : Cubic → Power → ℤ
coefficient f one = f.c00
coefficient f r¹ = f.c10
coefficient f s¹ = f.c01
coefficient f r² = f.c20
coefficient f rs = f.c11
coefficient f s² = f.c02
coefficient f r³ = f.c30
coefficient f r²s = f.c21
coefficient f rs² = f.c12
coefficient f s³ = f.c03

-- the cubic with given coefficients
abbrev pub cubic_of : (Power → ℤ) → Positive → Cubic
cubic_of c d = record {
  c00 = c one;
  c10 = c r¹;
  c01 = c s¹;
  c20 = c r²;
  c11 = c rs;
  c02 = c s²;
  c30 = c r³;
  c21 = c r²s;
  c12 = c rs²;
  c03 = c s³;
  divisor = d;
}

-- equal cubics: all ten coefficients are equal as fractions
pub record ◌≅◌ (f g : Cubic) : Type 0 where
  pub coefficients : (p : Power) → whole (coefficient f p) ÷ f.divisor ≈ whole (coefficient g p) ÷ g.divisor

-- the value at a point: its height, in grains
unfoldable pub value : Cubic → Point → ℚ
value f P =
    (whole f.c00 +ℚ f.c10 ·ℚ P.r +ℚ f.c01 ·ℚ P.s
    +ℚ f.c20 ·ℚ (P.r *ℚ P.r) +ℚ f.c11 ·ℚ (P.r *ℚ P.s) +ℚ f.c02 ·ℚ (P.s *ℚ P.s)
    +ℚ f.c30 ·ℚ (P.r *ℚ P.r *ℚ P.r) +ℚ f.c21 ·ℚ (P.r *ℚ P.r *ℚ P.s) +ℚ f.c12 ·ℚ (P.r *ℚ P.s *ℚ P.s) +ℚ f.c03 ·ℚ (P.s *ℚ P.s *ℚ P.s))
    ÷ f.divisor

-- the derivative by r
unfoldable pub by_r : Cubic → Cubic
by_r f = record {
  c00 = f.c10;
  c10 = pos 2 *ℤ f.c20;
  c01 = f.c11;
  c20 = pos 3 *ℤ f.c30;
  c11 = pos 2 *ℤ f.c21;
  c02 = f.c12;
  c30 = pos 0;
  c21 = pos 0;
  c12 = pos 0;
  c03 = pos 0;
  divisor = f.divisor;
}

-- the derivative by s
unfoldable pub by_s : Cubic → Cubic
by_s f = record {
  c00 = f.c01;
  c10 = f.c11;
  c01 = pos 2 *ℤ f.c02;
  c20 = f.c21;
  c11 = pos 2 *ℤ f.c12;
  c02 = pos 3 *ℤ f.c03;
  c30 = pos 0;
  c21 = pos 0;
  c12 = pos 0;
  c03 = pos 0;
  divisor = f.divisor;
}

-- a height with an x-slope and a y-slope (a 1-jet: value and gradient)
pub record Jet (A : Type 0) : Type 0 where
  pub height : A
  pub x_slope : A
  pub y_slope : A

-- those of a cubic at a point: the x-slope is the derivative by r divided by W, the y-slope that by s divided by H
unfoldable pub jet : Cell → Cubic → Point → Jet ℚ
jet C f P = record {
  height = value f P;
  x_slope = value (by_r f) P ÷ C.W;
  y_slope = value (by_s f) P ÷ C.H;
}

infix 20 ◌≋◌ ◌≅◌
-- the same height, x-slope and y-slope
pub record ◌≋◌ (j k : Jet ℚ) : Type 0 where
  pub heights : j.height ≈ k.height
  pub x_slopes : j.x_slope ≈ k.x_slope
  pub y_slopes : j.y_slope ≈ k.y_slope

-- a bend: the second derivatives per pixel, xx, xy and yy, in grains per pixel per pixel; 01 counts them in 1/64 of that
pub record Bend : Type 0 where
  pub xx : ℚ
  pub xy : ℚ
  pub yy : ℚ

unfoldable pub bend : Cell → Cubic → Point → Bend
bend C f P = record {
  xx = value (by_r (by_r f)) P ÷ C.W ÷ C.W;
  xy = value (by_s (by_r f)) P ÷ C.W ÷ C.H;
  yy = value (by_s (by_s f)) P ÷ C.H ÷ C.H;
}
