-- Cubics some or all of whose coefficients are 0. Assumes nothing.
use mathlib.Core.Path.{◌≡◌, refl, sym, subst}
use mathlib.Core.List.{[]}
use lib.IntN.{ℤ, pos}
use Rattle.element_sibson.specs.Fraction.{Positive}
use Rattle.element_sibson.specs.Cubic.{Cell, Point, Cubic, Power, one, r¹, s¹, r², rs, s², r³, r²s, rs², s³, coefficient, cubic_of, by_r, by_s, jet, ◌≋◌}
use Rattle.integers.proofs.Polynomial.{#◌}
use Rattle.element_sibson.proofs.Jets.{none}
use Rattle.element_sibson.proofs.Quote.{Cubicₑ, cubic_ofₑ, fractionₑ, fraction, same_three_lem}
use Rattle.element_sibson.proofs.Evaluate.{numerator, numerators_at, none_at, numeratorsₑ, flatₑ}

-- the coefficients of the cubic with given coefficients
pub coefficient_of : (c : Power → ℤ) (d : Positive) (p : Power) → coefficient (cubic_of c d) p ≡ c p
coefficient_of c d one = refl
coefficient_of c d r¹ = refl
coefficient_of c d s¹ = refl
coefficient_of c d r² = refl
coefficient_of c d rs = refl
coefficient_of c d s² = refl
coefficient_of c d r³ = refl
coefficient_of c d r²s = refl
coefficient_of c d rs² = refl
coefficient_of c d s³ = refl

-- ---- three coefficients

-- s² (α + β r + γ s), over a divisor
abbrev pub squared : ℤ → ℤ → ℤ → Positive → Cubic
squared α β γ d = record {
  c00 = pos 0;
  c10 = pos 0;
  c01 = pos 0;
  c20 = pos 0;
  c11 = pos 0;
  c02 = α;
  c30 = pos 0;
  c21 = pos 0;
  c12 = β;
  c03 = γ;
  divisor = d;
}

-- a cubic that has no other coefficients
pub record Squared (f : Cubic) : Type 0 where
  pub z00 : f.c00 ≡ pos 0
  pub z10 : f.c10 ≡ pos 0
  pub z01 : f.c01 ≡ pos 0
  pub z20 : f.c20 ≡ pos 0
  pub z11 : f.c11 ≡ pos 0
  pub z30 : f.c30 ≡ pos 0
  pub z21 : f.c21 ≡ pos 0

abbrev pub edgewise : Cubic → Cubic
edgewise f = squared f.c02 f.c12 f.c03 f.divisor

pub is_edgewise : (f : Cubic) → Squared f → f ≡ edgewise f
is_edgewise f z = λ i. record {
  c00 = z.z00 i;
  c10 = z.z10 i;
  c01 = z.z01 i;
  c20 = z.z20 i;
  c11 = z.z11 i;
  c02 = f.c02;
  c30 = z.z30 i;
  c21 = z.z21 i;
  c12 = f.c12;
  c03 = f.c03;
  divisor = f.divisor;
}

-- ---- a cubic that is 0 has nothing anywhere

unfoldable pub Zero : Cubic → Type 0
Zero f = (p : Power) → coefficient f p ≡ pos 0

abbrev blank : Cubic → Cubic
blank f = cubic_of (λ p. pos 0) f.divisor

is_blank : (f : Cubic) → Zero f → f ≡ blank f
unfolding Zero
is_blank f z = λ i. cubic_of (λ p. z p i) f.divisor

abbrev blankₑ : Cubicₑ
blankₑ = cubic_ofₑ (λ p. # 0) (# 1)

blank_jet : (C : Cell) (f : Cubic) (P : Point) → jet C (blank f) P ≋ none
unfolding numerators_at numerator by_r by_s
blank_jet C f P = none_at C (blank f) P (same_three_lem (numeratorsₑ blankₑ (fractionₑ 0) (fractionₑ 2)) flatₑ tt (fraction P.r (fraction P.s [])))

pub zero_jet : (C : Cell) (f : Cubic) → Zero f → (P : Point) → jet C f P ≋ none
zero_jet C f z P = subst (λ g. jet C g P ≋ none) (sym (is_blank f z)) (blank_jet C f P)
