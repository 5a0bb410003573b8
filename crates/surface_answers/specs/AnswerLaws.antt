-- That an answer is known by its number and values, and that its floats lose nothing. Assumes nothing.
use Rattle.std.specs.Prelude.{ℕ, ◌*◌, ◌≡◌, ◌↔◌, [], ◌∷◌, Bool, true, false, cond, ℤ, pos, negsuc, neg_ℤ, nat_abs, Float}
use Rattle.std.specs.Float.{nan, inf, fin}
use Rattle.std.specs.Float.Ieee.{up, down}
use Rattle.std.specs.Float.Ieee.Exact.{HasValue}
use Rattle.std.specs.Float.Ieee.Fits.{down_pos}
use Rattle.element_sibson.specs.Fraction.{ℚ, ◌≈◌, whole, ◌·ℚ◌, ◌÷◌}
use Rattle.surface_answers.specs.Answers.{outcome, divisor, quotient, FitsFloat}
use Rattle.surface_answers.specs.declared.Answer.{Answer}
use Rattle.surface_answers.specs.declared.Answer.TheVariants.{Level, Tilt, Bend, Refused}

-- the number and the values tell answers apart; so what is said of them is said of the answer: which case it is, and of what
pub record AnswerLaws : Type 0 where
  pub told : (r r' : Answer) → outcome r ≡ outcome r' → r ≡ r'
  pub level : (r : Answer) (v : Float) → (outcome r ≡ record { number = 0; values = v ∷ [] }) ↔ (r ≡ Level v)
  pub tilt : (r : Answer) (x y : Float) → (outcome r ≡ record { number = 0; values = x ∷ y ∷ [] }) ↔ (r ≡ Tilt x y)
  pub bend : (r : Answer) (xx xy yy : Float) → (outcome r ≡ record { number = 0; values = xx ∷ xy ∷ yy ∷ [] }) ↔ (r ≡ Bend xx xy yy)
  pub refused : (r : Answer) (n : ℕ) → (outcome r ≡ record { number = n; values = [] }) ↔ (r ≡ Refused n)

-- ---- floats as fractions

-- what a finite float is: ± m 2ᵉ, where 2ᵉ is the kit's `up e` over its `down e`
abbrev pub dyadic : Bool → ℕ → ℤ → ℚ
dyadic s m e = record {
  numerator = cond s (neg_ℤ (pos (m * up e))) (pos (m * up e));
  denominator = record { number = down e; above = down_pos e };
}

infix 20 ◌is◌
-- the float is finite, and is the fraction
unfoldable pub ◌is◌ : Float → ℚ → Type 0
nan is x = ⊥
inf s is x = ⊥
fin s m e is x = dyadic s m e ≈ x

abbrev pub negative : ℤ → Bool
negative (pos n) = false
negative (negsuc n) = true

-- a small whole number's quotient by the divisor of a reading kind
pub record QuotientLaws : Type 0 where
  -- it is exact
  pub exact : (kind : ℕ) (z : ℤ) → FitsFloat z → quotient (divisor kind) z is whole z ÷ divisor kind
  -- so its value times the divisor is the whole number
  pub times : (kind : ℕ) (z : ℤ) → FitsFloat z → (x : ℚ) → quotient (divisor kind) z is x → pos (divisor kind).number ·ℚ x ≈ whole z
  -- the same in the kit's words: finite, with z's sign, |z| over the divisor in size
  pub kit : (kind : ℕ) (z : ℤ) → FitsFloat z → HasValue (quotient (divisor kind) z) (negative z) (nat_abs z) (divisor kind).number
  -- of 0 it is +0
  pub zero : (kind : ℕ) → quotient (divisor kind) (pos 0) ≡ fin false 0 (pos 0)
