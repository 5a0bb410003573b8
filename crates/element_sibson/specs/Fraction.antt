-- Fractions: a denominator is above 0 by its type; equality and order are cross-multiplied. Assumes nothing.
use Rattle.std.specs.Prelude.{◌≡◌, Bool, ℕ, ◌*◌, ◌<◌, T, ltb, ℤ, pos, neg_ℤ, ◌+ℤ◌, ◌*ℤ◌, ◌≤ℤ◌, ◌<ℤ◌}
use Rattle.std.proofs.Common.{mul-pos, ltb→lt}
use Rattle.std.specs.Int.Signed.{le_z}

-- a natural above 0: a denominator, a divisor, a width, a height
pub record Positive : Type 0 where
  pub number : ℕ
  pub above : 0 < number

-- a literal, as in `positive 2 tt`
abbrev pub positive : (n : ℕ) → T (ltb 0 n) → Positive
positive n t = record { number = n; above = ltb→lt 0 n t }

infixl 70 ◌*⁺◌
abbrev pub ◌*⁺◌ : Positive → Positive → Positive
m *⁺ n = record { number = m.number * n.number; above = mul-pos m.above n.above }

-- a fraction: a whole number over a natural above 0
pub record ℚ : Type 0 where
  pub numerator : ℤ
  pub denominator : Positive

infix 20 ◌≈◌ ◌≤ℚ◌ ◌<ℚ◌
infixl 60 ◌+ℚ◌ ◌-ℚ◌
infixl 70 ◌*ℚ◌ ◌·ℚ◌ ◌÷◌
-- equal as fractions
pub record ◌≈◌ (x y : ℚ) : Type 0 where
  pub crossed : x.numerator *ℤ pos y.denominator.number ≡ y.numerator *ℤ pos x.denominator.number

pub record ◌≤ℚ◌ (x y : ℚ) : Type 0 where
  pub crossed : (x.numerator *ℤ pos y.denominator.number) ≤ℤ (y.numerator *ℤ pos x.denominator.number)

-- the same order, as a test
abbrev pub leℚ : ℚ → ℚ → Bool
leℚ x y = le_z (x.numerator *ℤ pos y.denominator.number) (y.numerator *ℤ pos x.denominator.number)

-- strictly below
pub record ◌<ℚ◌ (x y : ℚ) : Type 0 where
  pub crossed : (x.numerator *ℤ pos y.denominator.number) <ℤ (y.numerator *ℤ pos x.denominator.number)

-- a whole number
abbrev pub whole : ℤ → ℚ
whole z = record { numerator = z; denominator = positive 1 tt }

abbrev pub ◌+ℚ◌ : ℚ → ℚ → ℚ
x +ℚ y = record {
  numerator = x.numerator *ℤ pos y.denominator.number +ℤ y.numerator *ℤ pos x.denominator.number;
  denominator = x.denominator *⁺ y.denominator;
}

abbrev pub ◌*ℚ◌ : ℚ → ℚ → ℚ
x *ℚ y = record { numerator = x.numerator *ℤ y.numerator; denominator = x.denominator *⁺ y.denominator }

-- a whole multiple, and the quotient by a natural above 0
abbrev pub ◌·ℚ◌ : ℤ → ℚ → ℚ
c ·ℚ x = record { numerator = c *ℤ x.numerator; denominator = x.denominator }

abbrev pub ◌÷◌ : ℚ → Positive → ℚ
x ÷ n = record { numerator = x.numerator; denominator = x.denominator *⁺ n }

abbrev pub ◌-ℚ◌ : ℚ → ℚ → ℚ
x -ℚ y = x +ℚ neg_ℤ (pos 1) ·ℚ y

abbrev pub half : ℚ
half = whole (pos 1) ÷ positive 2 tt

-- 1 − x
abbrev pub complement : ℚ → ℚ
complement x = whole (pos 1) -ℚ x
