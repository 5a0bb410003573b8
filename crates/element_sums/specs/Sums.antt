-- Sums: corner numbers that are added give cubics that are added; these give heights, slopes and bends that are added. And the rounding of a sum beside the sum
-- of the roundings. Assumes nothing.
use Rattle.std.specs.Prelude.{ℤ, ◌+ℤ◌, ◌-ℤ◌}
use Rattle.integers.specs.Within.{◌within◌}
use Rattle.element_sibson.specs.Fraction.{ℚ, ◌≈◌, ◌+ℚ◌, ◌÷◌, whole}
use Rattle.element_sibson.specs.Cubic.{Cell, Point, Cubic, Power, coefficient, value, Jet, jet, ◌≋◌, bend}
use Rattle.element_sibson.specs.Piece.{Piece, Corner}
use Rattle.element_sibson.specs.Element.{Nodes, CornerNumbers, sibson, element}
use Rattle.element_readings.specs.Reading.{rounded}

-- two heights with their slopes, added number by number
infixl 60 ◌+ⱼ◌
abbrev pub ◌+ⱼ◌ : Jet ℚ → Jet ℚ → Jet ℚ
j +ⱼ k = record { height = j.height +ℚ k.height; x_slope = j.x_slope +ℚ k.x_slope; y_slope = j.y_slope +ℚ k.y_slope }

-- the same of whole numbers, and of those at each corner of a cell
abbrev pub plus : Jet ℤ → Jet ℤ → Jet ℤ
plus v w = record { height = v.height +ℤ w.height; x_slope = v.x_slope +ℤ w.x_slope; y_slope = v.y_slope +ℤ w.y_slope }

unfoldable pub together : (Corner → Jet ℤ) → (Corner → Jet ℤ) → Corner → Jet ℤ
together m n c = plus (m c) (n c)

-- the cubic h is the sum of f and g: each of its ten coefficients is the sum of theirs, as fractions
pub record SumOf (f g h : Cubic) : Type 0 where
  pub coefficients : (p : Power) →
      whole (coefficient h p) ÷ h.divisor ≈ whole (coefficient f p) ÷ f.divisor +ℚ whole (coefficient g p) ÷ g.divisor

pub record SumLaws : Type 0 where
  -- on every piece, of corner numbers, and of a cell's nodes
  pub pieces : (m n : CornerNumbers) (k : Piece) → SumOf (sibson m k) (sibson n k) (sibson (together m n) k)
  pub elements : (C : Cell) (m n : Nodes) (k : Piece) → SumOf (element C m k) (element C n k) (element C (together m n) k)
  -- a sum of cubics has at every point the sum of the values, of the heights and slopes, and of the second derivatives
  pub values : {f g h : Cubic} → SumOf f g h → (P : Point) → value h P ≈ value f P +ℚ value g P
  pub jets : {f g h : Cubic} → SumOf f g h → (C : Cell) (P : Point) → jet C h P ≋ jet C f P +ⱼ jet C g P
  pub bends_xx : {f g h : Cubic} → SumOf f g h → (C : Cell) (P : Point) → (bend C h P).xx ≈ (bend C f P).xx +ℚ (bend C g P).xx
  pub bends_xy : {f g h : Cubic} → SumOf f g h → (C : Cell) (P : Point) → (bend C h P).xy ≈ (bend C f P).xy +ℚ (bend C g P).xy
  pub bends_yy : {f g h : Cubic} → SumOf f g h → (C : Cell) (P : Point) → (bend C h P).yy ≈ (bend C f P).yy +ℚ (bend C g P).yy
  -- a sum that is rounded and its parts rounded are at most 1 apart, of two parts and of three
  pub two_rounded : (x y : ℚ) {z : ℚ} → z ≈ x +ℚ y → (rounded z -ℤ (rounded x +ℤ rounded y)) within 1
  pub three_rounded : (w x y : ℚ) {z : ℚ} → z ≈ w +ℚ x +ℚ y → (rounded z -ℤ (rounded w +ℤ rounded x +ℤ rounded y)) within 1
