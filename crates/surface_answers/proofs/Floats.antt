-- The casts and the divisions of `src/lib.rt`: the cast is defined, the machine divides as the definition does, and the quotient by a power of two
-- is exact. Assumes nothing.
use Prim.Native.Nat.{ℕ, zero, suc, ◌+◌, ◌-◌, ◌*◌, ◌≤◌, ◌<◌, ◌^◌}
use mathlib.Core.Path.{◌≡◌, refl, sym, ◌∙◌, ap, subst, subst⁻¹}
use mathlib.Core.Bool.{Bool, true, false, not}
use native.Mathlib.Nat.{mul_assoc, mul_comm, mul-one, mul-pos, lt_of_lt_of_le, le_trans}
use native.Mathlib.Omega.{arith}
use borrow.Author.Tests.{ne_eqb}
use lib.IntN.{ℤ, pos, negsuc, nat_abs}
use lib.Dec.{T, le→leb, lt→ltb, lit<, lit≤}
use lib.Pow.{shl_lt, pow-add, pow_mono, pow-lt}
use lib.Signed.{mag}
use mir.Syntax.{w64}
use mir.Val.{to_z, of_z}
use mir.ValLaws.{to_z-of_z}
use lib.Ieee.{Float, nan, inf, fin, binary64, of_int, div, in_float, is_nan, of_bits, to_bits, up, down, round, unlike}
use lib.Ieee.Exact.{HasValue, round_exact}
use lib.Ieee.Bits.{of_bits-to_bits}
use lib.Ieee.Fits.{down_pos, div-fits}
use lib.Ieee.Scale.{round_same}
use Rattle.element_sibson.specs.Fraction.{Positive}
use Rattle.surface_answers.specs.Answers.{divisor, quotient, FitsFloat}
use Rattle.surface_answers.specs.AnswerLaws.{negative}

-- ---- the code

-- the machine reads z back from its bits
back : (z : ℤ) → FitsFloat z → to_z w64 (of_z w64 z) ≡ z
unfolding FitsFloat
back z h = to_z-of_z w64 z (record { sfits = near z h })
  where
    near : (z : ℤ) → nat_abs z < 2 ^ 53 → mag z < 2 ^ 63
    near (pos n) h = omega arith
    near (negsuc n) h = omega arith

-- the cast of z is defined
pub in_float_lem : (z : ℤ) → FitsFloat z → T (in_float binary64 (to_z w64 (of_z w64 z)))
unfolding in_float FitsFloat
in_float_lem z h = rw (back z h) (near z h)
  where
    near : (z : ℤ) → nat_abs z < 2 ^ 53 → T (in_float binary64 z)
    near (pos n) h = le→leb n (2 ^ 53) (omega arith)
    near (negsuc n) h = lt→ltb n (2 ^ 53) (omega arith)

-- the bits of each kind's divisor
abbrev pub bits : ℕ → ℕ
bits zero = 0x4050_0000_0000_0000
bits (suc zero) = 0x4050_0000_0000_0000
bits (suc (suc k)) = 0x40b0_0000_0000_0000

bits_divisor : (kind : ℕ) → of_bits binary64 (bits kind) ≡ of_int binary64 (pos (divisor kind).number)
unfolding of_bits of_int
bits_divisor zero = refl
bits_divisor (suc zero) = refl
bits_divisor (suc (suc k)) = refl

-- z as the machine divides it is the quotient of the definition
pub divides : (kind : ℕ) (z : ℤ) → FitsFloat z → div binary64 (of_int binary64 (to_z w64 (of_z w64 z))) (of_bits binary64 (bits kind)) ≡ quotient (divisor kind) z
unfolding quotient
divides kind z h = rw (back z h, bits_divisor kind)

-- ---- exactness

unlike_false : (s : Bool) → unlike s false ≡ s
unlike_false true = refl
unlike_false false = refl

-- in units of the smallest float, below the infinity
in_range : (n j : ℕ) → n < 2 ^ 53 → j ≤ 1074 → n * 2 ^ j < 2 ^ 2098
in_range n j h l = lt_of_lt_of_le (shl_lt 53 j h) (le_trans (pow_mono {i = 53 + j} {j = 1127} (omega arith)) (lit≤ tt))

-- a whole number is a float, exactly
whole_value : (s : Bool) (n : ℕ) → n < 2 ^ 53 → HasValue (round binary64 s n 1) s n 1
whole_value s n h = round_exact binary64 s n 1 n 1074 (lit< tt) h (in_range n 1074 h (lit≤ tt)) (sym (mul-one (n * 2 ^ 1074)))

-- (a / d) / (b / e) is n / m, where a / d is n and b / e is m
crossed : (a b n m d e : ℕ) → a * 1 ≡ n * d → b * 1 ≡ m * e → a * e * m ≡ n * (b * d)
crossed a b n m d e h g =
    ap (λ (x : ℕ). x * e * m) (sym (mul-one a) ∙ h)
    ∙ ap (λ (x : ℕ). x * m) (mul_assoc n d e)
    ∙ mul_assoc n (d * e) m
    ∙ ap (λ (x : ℕ). n * x) (mul_comm (d * e) m ∙ ap (λ (x : ℕ). m * x) (mul_comm d e) ∙ sym (mul_assoc m e d))
    ∙ ap (λ (x : ℕ). n * (x * d)) (sym g ∙ mul-one b)

-- the quotient of two whole numbers is their fraction, rounded
module _ (s : Bool) (n m : ℕ) (above : 0 < m) where
  numerator_pos : (b : ℕ) (e : ℤ) → b * up e * 1 ≡ m * down e → 0 < b * up e
  numerator_pos b e g = subst (λ (x : ℕ). 0 < x) (sym g ∙ mul-one (b * up e)) (mul-pos above (down_pos e))

  not_zero : (b : ℕ) (e : ℤ) → b * up e * 1 ≡ m * down e → b ≡ 0 → ⊥
  not_zero b e g z = let p : 0 < 0 * up e = subst (λ (x : ℕ). 0 < x * up e) z (numerator_pos b e g) in omega (arith, p)

  divided : (x y : Float) → HasValue x s n 1 → HasValue y false m 1 → div binary64 x y ≡ round binary64 s n m
  unfolding div
  divided nan y h g = absurd h
  divided (inf t) y h g = absurd h
  divided (fin t a d) nan h g = absurd g
  divided (fin t a d) (inf u) h g = absurd g
  divided (fin t a d) (fin u b e) h g =
      rw (ne_eqb b 0 (not_zero b e g.1), g.0, unlike_false, h.0)
      (round_same binary64 s (a * up d * down e) (b * up e * down d) n m
      (mul-pos (numerator_pos b e g.1) (down_pos d))
      above
      (crossed (a * up d) (b * up e) n m (down d) (down e) h.1 g.1))

-- the quotient by 2 ^ k is exact
module _ (d : Positive) (k : ℕ) (power : d.number ≡ 2 ^ k) (small : k < 53) where
  -- n in units of 2 ^ -1074, the smallest float
  units : (n : ℕ) → n * 2 ^ 1074 ≡ n * 2 ^ (1074 - k) * d.number
  units n =
      let whole : 1074 ≡ 1074 - k + k = omega (arith, small) in
      ap (λ (x : ℕ). n * 2 ^ x) whole
      ∙ ap (λ (x : ℕ). n * x) (pow-add 2 (1074 - k) k ∙ ap (λ (x : ℕ). 2 ^ (1074 - k) * x) (sym power))
      ∙ sym (mul_assoc n (2 ^ (1074 - k)) d.number)

  exact_by : (s : Bool) (n : ℕ) → n < 2 ^ 53 → HasValue (div binary64 (round binary64 s n 1) (round binary64 false d.number 1)) s n d.number
  exact_by s n h =
      rw (divided s n d.number d.above _ _ (whole_value s n h) (whole_value false d.number (subst⁻¹ (λ (x : ℕ). x < 2 ^ 53) power (pow-lt small))))
      (round_exact binary64 s n d.number n (1074 - k) d.above h (in_range n (1074 - k) h (omega arith)) (units n))

  exact : (z : ℤ) → FitsFloat z → HasValue (quotient d z) (negative z) (nat_abs z) d.number
  unfolding quotient of_int FitsFloat
  exact (pos n) h = exact_by false n (omega arith)
  exact (negsuc n) h = exact_by true (suc n) (omega arith)

-- a small whole number's quotient by a kind's divisor has its sign and its size over the divisor
pub quotient_value : (kind : ℕ) (z : ℤ) → FitsFloat z → HasValue (quotient (divisor kind) z) (negative z) (nat_abs z) (divisor kind).number
quotient_value zero z h = exact (divisor 0) 6 refl (lit< tt) z h
quotient_value (suc zero) z h = exact (divisor 1) 6 refl (lit< tt) z h
quotient_value (suc (suc k)) z h = exact (divisor 2) 12 refl (lit< tt) z h

-- 0 over it is +0
pub quotient_zero : (kind : ℕ) → quotient (divisor kind) (pos 0) ≡ fin false 0 (pos 0)
unfolding quotient of_int div
quotient_zero zero = refl
quotient_zero (suc zero) = refl
quotient_zero (suc (suc k)) = refl

-- what has a value is no NaN
value_number : (x : Float) (s : Bool) (n d : ℕ) → HasValue x s n d → T (not (is_nan x))
unfolding is_nan
value_number nan s n d h = absurd h
value_number (inf t) s n d h = absurd h
value_number (fin t m e) s n d h = tt

-- so the quotient is none
pub quotient_number : (kind : ℕ) (z : ℤ) → FitsFloat z → T (not (is_nan (quotient (divisor kind) z)))
quotient_number kind z h = value_number (quotient (divisor kind) z) _ _ _ (quotient_value kind z h)

-- and its bits say it
pub quotient_bits : (d : Positive) (z : ℤ) → of_bits binary64 (to_bits binary64 (quotient d z)) ≡ quotient d z
unfolding quotient
quotient_bits d z = of_bits-to_bits binary64 (quotient d z) (div-fits binary64 _ _)
