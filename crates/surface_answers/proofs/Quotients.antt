-- A small whole number's quotient by a kind's divisor, as a fraction: it is the fraction, and times the divisor the whole number. Assumes nothing.
use Prim.Native.Nat.{ℕ, suc, ◌*◌}
use mathlib.Core.Path.{sym, ◌∙◌, ap}
use mathlib.Core.List.{[], ◌∷◌}
use native.Mathlib.Nat.{one-mul}
use lib.IntN.{ℤ, pos, negsuc, nat_abs}
use lib.Ieee.{Float, nan, inf, fin, up, down}
use lib.Ieee.Exact.{HasValue}
use Rattle.integers.proofs.Polynomial.{#◌, ◌⊗◌, ⊖◌}
use Rattle.integers.proofs.Solve.{◌≐◌, solve}
use Rattle.integers.proofs.Deduce.{◌·◌, ◌⊨◌, deduce}
use Rattle.element_sibson.specs.Fraction.{Positive, ℚ, ◌≈◌, whole, ◌·ℚ◌, ◌÷◌}
use Rattle.element_sibson.proofs.Fractions.{≈_sym, ≈_trans, ≈-·}
use Rattle.surface_answers.specs.Answers.{divisor, quotient, FitsFloat}
use Rattle.surface_answers.specs.AnswerLaws.{QuotientLaws, ◌is◌, negative}
use Rattle.surface_answers.proofs.Floats.{quotient_value, quotient_zero}

-- a float that has z's sign and |z| / d in size is z / d
is_fraction : (d : Positive) (z : ℤ) (x : Float) → HasValue x (negative z) (nat_abs z) d.number → x is whole z ÷ d
unfolding ◌is◌
is_fraction d z nan h = absurd h
is_fraction d z (inf s) h = absurd h
is_fraction d (pos n) (fin s m e) h = rw h.0 (record { crossed = ap (λ (x : ℕ). pos (m * up e * x)) (one-mul d.number) ∙ ap pos h.1 })
is_fraction d (negsuc n) (fin s m e) h = rw h.0 (record {
  crossed = deduce 4 (λ a p b q. (# 1 · (b ⊗ q ≐ a ⊗ p)) ∷ [] ⊨ ⊖ a ⊗ (# 1 ⊗ p) ≐ ⊖ b ⊗ q) tt (pos (m * up e)) (pos d.number) (pos (suc n)) (pos (down e)) (ap pos (sym h.1));
})

-- a float is one fraction
one_fraction : (f : Float) {x y : ℚ} → f is x → f is y → x ≈ y
unfolding ◌is◌
one_fraction nan h k = absurd h
one_fraction (inf s) h k = absurd h
one_fraction (fin s m e) h k = ≈_trans (≈_sym h) k

product : (d : Positive) (z : ℤ) → pos d.number ·ℚ (whole z ÷ d) ≈ whole z
product d z = record { crossed = solve 2 (λ d z. d ⊗ z ⊗ # 1 ≐ z ⊗ (# 1 ⊗ d)) tt (pos d.number) z }

exact : (kind : ℕ) (z : ℤ) → FitsFloat z → quotient (divisor kind) z is whole z ÷ divisor kind
exact kind z h = is_fraction (divisor kind) z (quotient (divisor kind) z) (quotient_value kind z h)

pub quotient_laws : QuotientLaws
quotient_laws = record {
  exact = exact;
  times = λ kind z h x e. ≈_trans (≈-· (pos (divisor kind).number) (one_fraction (quotient (divisor kind) z) e (exact kind z h))) (product (divisor kind) z);
  kit = quotient_value;
  zero = quotient_zero;
}
