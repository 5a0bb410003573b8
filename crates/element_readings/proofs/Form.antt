-- A cubic's value as a form: at (A/Q, B/Q) it is Σ cᵢⱼ Aⁱ Bʲ Q³⁻ⁱ⁻ʲ over divisor · Q³. Assumes nothing.
use mathlib.Core.List.{[], ◌∷◌}
use Prim.Native.Nat.{ℕ, ◌*◌}
use lib.IntN.{ℤ, pos, ◌+ℤ◌, ◌*ℤ◌}
use Rattle.integers.specs.Within.{◌within◌}
use Rattle.integers.proofs.Polynomial.{Expr, var, ◌⊕◌, ◌⊗◌}
use Rattle.integers.proofs.Solve.{◌≐◌, solve}
use Rattle.element_sibson.specs.Fraction.{Positive, ℚ, ◌≈◌, ◌*⁺◌, whole, ◌÷◌}
use Rattle.element_sibson.specs.Cubic.{Point, Cubic, value}
use Rattle.element_sibson.proofs.Fractions.{≈_trans}
use Rattle.element_sibson.proofs.Jets.{◌≈ₚ◌, value_at}
use Rattle.element_sibson.proofs.Quote.{◌/ₑ◌, Cubicₑ, valueₑ, equal, anyₑ, cubic}
use Rattle.element_readings.specs.Reading.{◌withinℚ◌}
use Rattle.element_readings.proofs.WithinFractions.{within-≈, ratio_within}

unfoldable pub form : Cubic → ℤ → ℤ → ℤ → ℤ
form f A B Q =
    f.c00 *ℤ (Q *ℤ Q *ℤ Q) +ℤ f.c10 *ℤ (A *ℤ Q *ℤ Q) +ℤ f.c01 *ℤ (B *ℤ Q *ℤ Q)
    +ℤ f.c20 *ℤ (A *ℤ A *ℤ Q) +ℤ f.c11 *ℤ (A *ℤ B *ℤ Q) +ℤ f.c02 *ℤ (B *ℤ B *ℤ Q)
    +ℤ f.c30 *ℤ (A *ℤ A *ℤ A) +ℤ f.c21 *ℤ (A *ℤ A *ℤ B) +ℤ f.c12 *ℤ (A *ℤ B *ℤ B) +ℤ f.c03 *ℤ (B *ℤ B *ℤ B)

abbrev pub formₑ : Cubicₑ → Expr → Expr → Expr → Expr
formₑ f A B Q =
    f.c00 ⊗ (Q ⊗ Q ⊗ Q) ⊕ f.c10 ⊗ (A ⊗ Q ⊗ Q) ⊕ f.c01 ⊗ (B ⊗ Q ⊗ Q)
    ⊕ f.c20 ⊗ (A ⊗ A ⊗ Q) ⊕ f.c11 ⊗ (A ⊗ B ⊗ Q) ⊕ f.c02 ⊗ (B ⊗ B ⊗ Q)
    ⊕ f.c30 ⊗ (A ⊗ A ⊗ A) ⊕ f.c21 ⊗ (A ⊗ A ⊗ B) ⊕ f.c12 ⊗ (A ⊗ B ⊗ B) ⊕ f.c03 ⊗ (B ⊗ B ⊗ B)

abbrev pub cubeₑ : Expr → Expr
cubeₑ Q = Q ⊗ Q ⊗ Q

-- ---- points over one denominator

abbrev pub over : ℤ → ℤ → Positive → Point
over A B Q = record { r = record { numerator = A; denominator = Q }; s = record { numerator = B; denominator = Q } }

-- every point is one
abbrev pub commonly : Point → Point
commonly P = let p = P.r.denominator in let q = P.s.denominator in over (P.r.numerator *ℤ pos q.number) (P.s.numerator *ℤ pos p.number) (p *⁺ q)

pub common : (P : Point) → P ≈ₚ commonly P
common P = let p = pos P.r.denominator.number in let q = pos P.s.denominator.number in record {
  rs = record { crossed = solve 3 (λ a p q. a ⊗ (p ⊗ q) ≐ a ⊗ q ⊗ p) tt P.r.numerator p q };
  ss = record { crossed = solve 3 (λ b p q. b ⊗ (p ⊗ q) ≐ b ⊗ p ⊗ q) tt P.s.numerator p q };
}

abbrev pub cube : Positive → Positive
cube Q = Q *⁺ Q *⁺ Q

abbrev formed : Cubic → ℤ → ℤ → Positive → ℚ
formed f A B Q = record { numerator = form f A B (pos Q.number); denominator = f.divisor *⁺ cube Q }

value_over : (f : Cubic) (A B : ℤ) (Q : Positive) → value f (over A B Q) ≈ formed f A B Q
unfolding value form
value_over f A B Q = record {
  crossed = equal (valueₑ anyₑ (var 11 /ₑ var 13) (var 12 /ₑ var 13)) (formₑ anyₑ (var 11) (var 12) (var 13) /ₑ (var 10 ⊗ cubeₑ (var 13))) tt
      (cubic f (A ∷ B ∷ pos Q.number ∷ []));
}

pub value_form : (f : Cubic) {P : Point} {A B : ℤ} {Q : Positive} → P ≈ₚ over A B Q → value f P ≈ formed f A B Q
value_form f {A = A} {B} {Q} e = ≈_trans {y = value f (over A B Q)} (value_at f e) (value_over f A B Q)

-- ---- bounds

pub value_within : (f : Cubic) (S : ℕ) {P : Point} {A B : ℤ} {Q : Positive} → P ≈ₚ over A B Q → form f A B (pos Q.number) within (S * (cube Q).number) →
    value f P withinℚ whole (pos S) ÷ f.divisor
value_within f S {A = A} {B} {Q} e h = within-≈ (value_form f e) (ratio_within (form f A B (pos Q.number)) S f.divisor (cube Q) h)
