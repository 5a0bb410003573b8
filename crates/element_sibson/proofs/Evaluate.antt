-- A cubic's value over one denominator: at (a/p, b/q) it is Σ cᵢⱼ aⁱ p³⁻ⁱ bʲ q³⁻ʲ over divisor · p³ q³. Assumes nothing.
use mathlib.Core.Path.{◌≡◌, refl, sym, ◌∙◌, ap}
use mathlib.Core.List.{[], ◌∷◌}
use Prim.Native.Nat.{◌*◌}
use lib.IntN.{ℤ, pos, ◌+ℤ◌, ◌*ℤ◌, zero-*ℤ}
use Rattle.element_sibson.specs.Fraction.{Positive, ℚ, ◌≈◌, ◌*⁺◌, ◌·ℚ◌, whole}
use Rattle.element_sibson.specs.Cubic.{Cell, Point, Cubic, value, by_r, by_s, Jet, jet, ◌≋◌}
use Rattle.element_sibson.specs.Theorems.{per_pixel}
use Rattle.integers.proofs.Polynomial.{Expr, #◌, ◌⊕◌, ◌⊗◌, ⊖◌}
use Rattle.integers.proofs.Solve.{◌≐◌}
use Rattle.integers.proofs.Deduce.{◌·◌, ◌⊨◌, deduce}
use Rattle.integers.proofs.Order.{*ℤ_cancel_r}
use Rattle.element_sibson.proofs.Fractions.{≈_refl, ≈_sym, ≈_trans, ≈-·, ≈-÷, ≈-÷_none}
use Rattle.element_sibson.proofs.Jets.{none, ≋_trans}
use Rattle.element_sibson.proofs.Quote.{Quotient, ◌/ₑ◌, Cubicₑ, valueₑ, by_rₑ, by_sₑ, equal, anyₑ, rₑ, sₑ, any}

-- the sum of the ten terms
unfoldable pub numerator : Cubic → Point → ℤ
numerator f P = let a = P.r.numerator in let p = pos P.r.denominator.number in let b = P.s.numerator in let q = pos P.s.denominator.number in
    f.c00 *ℤ (p *ℤ p *ℤ p *ℤ (q *ℤ q *ℤ q)) +ℤ f.c10 *ℤ (a *ℤ p *ℤ p *ℤ (q *ℤ q *ℤ q)) +ℤ f.c01 *ℤ (p *ℤ p *ℤ p *ℤ (b *ℤ q *ℤ q))
    +ℤ f.c20 *ℤ (a *ℤ a *ℤ p *ℤ (q *ℤ q *ℤ q)) +ℤ f.c11 *ℤ (a *ℤ p *ℤ p *ℤ (b *ℤ q *ℤ q)) +ℤ f.c02 *ℤ (p *ℤ p *ℤ p *ℤ (b *ℤ b *ℤ q))
    +ℤ f.c30 *ℤ (a *ℤ a *ℤ a *ℤ (q *ℤ q *ℤ q)) +ℤ f.c21 *ℤ (a *ℤ a *ℤ p *ℤ (b *ℤ q *ℤ q)) +ℤ f.c12 *ℤ (a *ℤ p *ℤ p *ℤ (b *ℤ b *ℤ q))
    +ℤ f.c03 *ℤ (p *ℤ p *ℤ p *ℤ (b *ℤ b *ℤ b))

-- p³ q³
unfoldable pub cubes : Point → Positive
cubes P = let p = P.r.denominator in let q = P.s.denominator in p *⁺ p *⁺ p *⁺ (q *⁺ q *⁺ q)

abbrev pub numeratorₑ : Cubicₑ → Quotient → Quotient → Expr
numeratorₑ f r s = let a = r.num in let p = r.den in let b = s.num in let q = s.den in
    f.c00 ⊗ (p ⊗ p ⊗ p ⊗ (q ⊗ q ⊗ q)) ⊕ f.c10 ⊗ (a ⊗ p ⊗ p ⊗ (q ⊗ q ⊗ q)) ⊕ f.c01 ⊗ (p ⊗ p ⊗ p ⊗ (b ⊗ q ⊗ q))
    ⊕ f.c20 ⊗ (a ⊗ a ⊗ p ⊗ (q ⊗ q ⊗ q)) ⊕ f.c11 ⊗ (a ⊗ p ⊗ p ⊗ (b ⊗ q ⊗ q)) ⊕ f.c02 ⊗ (p ⊗ p ⊗ p ⊗ (b ⊗ b ⊗ q))
    ⊕ f.c30 ⊗ (a ⊗ a ⊗ a ⊗ (q ⊗ q ⊗ q)) ⊕ f.c21 ⊗ (a ⊗ a ⊗ p ⊗ (b ⊗ q ⊗ q)) ⊕ f.c12 ⊗ (a ⊗ p ⊗ p ⊗ (b ⊗ b ⊗ q))
    ⊕ f.c03 ⊗ (p ⊗ p ⊗ p ⊗ (b ⊗ b ⊗ b))

abbrev pub common : Cubic → Point → ℚ
common f P = record { numerator = numerator f P; denominator = f.divisor *⁺ cubes P }

abbrev pub commonₑ : Cubicₑ → Quotient → Quotient → Quotient
commonₑ f r s = let p = r.den in let q = s.den in numeratorₑ f r s /ₑ (f.divisor ⊗ (p ⊗ p ⊗ p ⊗ (q ⊗ q ⊗ q)))

-- the value is the one over the other and the divisor
pub value_is : (f : Cubic) (P : Point) → value f P ≈ common f P
unfolding value numerator cubes
value_is f P = record {
  crossed = equal (valueₑ anyₑ rₑ sₑ) (commonₑ anyₑ rₑ sₑ) tt (any f P []);
}

-- ---- from fractions to whole numbers, and back

pub vanishes : (f : Cubic) (P : Point) → value f P ≈ whole (pos 0) → numerator f P ≡ pos 0
vanishes f P e = deduce 2 (λ z n. (# 1 · (z ⊗ # 1 ≐ # 0 ⊗ n)) ∷ [] ⊨ z ≐ # 0) tt (numerator f P) (pos (common f P).denominator.number)
    (≈_trans {y = value f P} (≈_sym (value_is f P)) e).crossed

-- a value that is c times another: the same of the numerators, each times the other's divisor
pub numerators : (f g : Cubic) (P Q : Point) (c : ℤ) → (cubes P).number ≡ (cubes Q).number → value f P ≈ c ·ℚ value g Q →
    numerator f P *ℤ pos g.divisor.number ≡ c *ℤ numerator g Q *ℤ pos f.divisor.number
numerators f g P Q c e h = *ℤ_cancel_r (cubes P).number (cubes P).above
    (deduce 7 (λ x y c d d' n n'. (# 1 · (x ⊗ (d' ⊗ n') ≐ c ⊗ y ⊗ (d ⊗ n))) ∷ (x ⊗ d' · (n ≐ n')) ∷ [] ⊨ x ⊗ d' ⊗ n ≐ c ⊗ y ⊗ d ⊗ n) tt
    (numerator f P) (numerator g Q) c (pos f.divisor.number) (pos g.divisor.number) (pos (cubes P).number) (pos (cubes Q).number)
    (≈_trans {y = value f P} (≈_sym (value_is f P)) (≈_trans {y = c ·ℚ value g Q} h (≈-· c (value_is g Q)))).crossed (ap pos e))

-- equal numerators over equal denominators
pub by_numerator : (f g : Cubic) (P Q : Point) → f.divisor.number ≡ g.divisor.number → (cubes P).number ≡ (cubes Q).number →
    numerator f P ≡ numerator g Q → value f P ≈ value g Q
by_numerator f g P Q d n e = ≈_trans {y = common f P} (value_is f P)
    (≈_trans {y = common g Q} (record { crossed = crossed }) (≈_sym (value_is g Q)))
  where
    crossed : numerator f P *ℤ pos (g.divisor.number * (cubes Q).number) ≡ numerator g Q *ℤ pos (f.divisor.number * (cubes P).number)
    crossed = deduce 6 (λ x y d d' n n'. (d' ⊗ n' · (x ≐ y)) ∷ (⊖ (y ⊗ n') · (d ≐ d')) ∷ (⊖ (y ⊗ d) · (n ≐ n')) ∷ [] ⊨ x ⊗ (d' ⊗ n') ≐ y ⊗ (d ⊗ n)) tt
        (numerator f P) (numerator g Q) (pos f.divisor.number) (pos g.divisor.number) (pos (cubes P).number) (pos (cubes Q).number) e (ap pos d) (ap pos n)

-- ---- heights and slopes by their numerators

unfoldable pub numerators_at : Cubic → Point → Jet ℤ
numerators_at f P = record { height = numerator f P; x_slope = numerator (by_r f) P; y_slope = numerator (by_s f) P }

pub by_numerators : (C : Cell) (f g : Cubic) (P : Point) → f.divisor.number ≡ g.divisor.number → numerators_at f P ≡ numerators_at g P → jet C f P ≋ jet C g P
unfolding jet numerators_at by_r by_s
by_numerators C f g P d e = record {
  heights = by_numerator f g P P d refl (ap (λ j. j.height) e);
  x_slopes = ≈-÷ _ (by_numerator (by_r f) (by_r g) P P d refl (ap (λ j. j.x_slope) e));
  y_slopes = ≈-÷ _ (by_numerator (by_s f) (by_s g) P P d refl (ap (λ j. j.y_slope) e));
}

-- whole heights and slopes
abbrev pub times : ℤ → Jet ℤ → Jet ℤ
times k n = record { height = n.height *ℤ k; x_slope = n.x_slope *ℤ k; y_slope = n.y_slope *ℤ k }

pub by_numbers : (C : Cell) (f : Cubic) (P : Point) (n : Jet ℤ) → numerators_at f P ≡ times (pos (f.divisor.number * (cubes P).number)) n → jet C f P ≋ per_pixel C n
unfolding jet numerators_at per_pixel by_r by_s
by_numbers C f P n e = record {
  heights = is f n.height refl (ap (λ j. j.height) e);
  x_slopes = ≈-÷ _ (is (by_r f) n.x_slope refl (ap (λ j. j.x_slope) e));
  y_slopes = ≈-÷ _ (is (by_s f) n.y_slope refl (ap (λ j. j.y_slope) e));
}
  where
    is : (g : Cubic) (z : ℤ) → g.divisor.number ≡ f.divisor.number → numerator g P ≡ z *ℤ pos (f.divisor.number * (cubes P).number) → value g P ≈ whole z
    is g z d e = ≈_trans {y = common g P} (value_is g P) (record {
      crossed = deduce 5 (λ x z d d' n. (# 1 · (x ≐ z ⊗ (d' ⊗ n))) ∷ (⊖ (z ⊗ n) · (d ≐ d')) ∷ [] ⊨ x ⊗ # 1 ≐ z ⊗ (d ⊗ n)) tt
          (numerator g P) z (pos g.divisor.number) (pos f.divisor.number) (pos (cubes P).number) e (ap pos d);
    })

-- nothing
abbrev pub zeroes : Jet ℤ
zeroes = record { height = pos 0; x_slope = pos 0; y_slope = pos 0 }

pub zeroes_none : (C : Cell) → per_pixel C zeroes ≋ none
unfolding none per_pixel
zeroes_none C = record { heights = ≈_refl (whole (pos 0)); x_slopes = ≈-÷_none C.W; y_slopes = ≈-÷_none C.H }

pub none_at : (C : Cell) (f : Cubic) (P : Point) → numerators_at f P ≡ zeroes → jet C f P ≋ none
none_at C f P e = ≋_trans {j = jet C f P} {k = per_pixel C zeroes} {l = none} (by_numbers C f P zeroes (e ∙ no_times)) (zeroes_none C)
  where
    no_times : zeroes ≡ times (pos (f.divisor.number * (cubes P).number)) zeroes
    no_times = λ i. let z = sym (zero-*ℤ (pos (f.divisor.number * (cubes P).number))) in record { height = z i; x_slope = z i; y_slope = z i }

-- ---- the same, quoted and decided

abbrev pub numeratorsₑ : Cubicₑ → Quotient → Quotient → Jet Expr
numeratorsₑ f r s = record { height = numeratorₑ f r s; x_slope = numeratorₑ (by_rₑ f) r s; y_slope = numeratorₑ (by_sₑ f) r s }

abbrev pub flatₑ : Jet Expr
flatₑ = record { height = # 0; x_slope = # 0; y_slope = # 0 }
