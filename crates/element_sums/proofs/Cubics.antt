-- A sum of cubics has the sum of the values, of the heights and slopes, and of the second derivatives. Assumes nothing.
use mathlib.Core.Path.{◌∙◌, ap}
use mathlib.Core.List.{[], ◌∷◌}
use lib.IntN.{ℤ, pos, ◌*ℤ◌}
use Rattle.integers.proofs.Polynomial.{var, #◌, ◌⊕◌, ◌⊗◌, ◌⊝◌}
use Rattle.integers.proofs.Solve.{◌≐◌}
use Rattle.integers.proofs.Deduce.{◌·◌, ◌⊨◌, deduce, certified_sound}
use Rattle.element_sibson.specs.Fraction.{Positive, positive, ℚ, ◌≈◌, ◌+ℚ◌, ◌-ℚ◌, ◌·ℚ◌, ◌÷◌, whole}
use Rattle.element_sibson.specs.Cubic.{Cell, Point, Cubic, Power, one, r¹, s¹, r², rs, s², r³, r²s, rs², s³, coefficient, ◌≅◌, value, by_r, by_s, jet, ◌≋◌, bend}
use Rattle.element_sibson.proofs.Quote.{Quotient, wholeₑ, ◌+ₑ◌, ◌-ₑ◌, ◌·ₑ◌, ◌÷ₑ◌, ◌≈ₑ◌, equal, fractionₑ, fraction}
use Rattle.element_sibson.proofs.Jets.{≋_sym, ≋_trans, ◌⊟◌}
use Rattle.element_sibson.proofs.Difference.{difference, coefficient_difference, jet_difference, same_everywhere}
use Rattle.element_sums.specs.Sums.{◌+ⱼ◌, SumOf}

-- ---- sums of fractions

abbrev xₑ : Quotient
xₑ = fractionₑ 0

abbrev yₑ : Quotient
yₑ = fractionₑ 2

abbrev zₑ : Quotient
zₑ = fractionₑ 4

of_minus : (x y : ℚ) {z : ℚ} → x -ℚ y ≈ z → x ≈ y +ℚ z
of_minus x y {z} e = record {
  crossed = certified_sound ((# 1 · (xₑ -ₑ yₑ ≈ₑ zₑ)) ∷ []) (xₑ ≈ₑ yₑ +ₑ zₑ) tt (fraction x (fraction y (fraction z []))) e.crossed;
}

quotients : (n : Positive) {x : ℚ} (y z : ℚ) → x ≈ y +ℚ z → x ÷ n ≈ y ÷ n +ℚ z ÷ n
quotients n {x} y z e = record {
  crossed = certified_sound ((var 6 ⊗ var 6 · (xₑ ≈ₑ yₑ +ₑ zₑ)) ∷ []) (xₑ ÷ₑ var 6 ≈ₑ yₑ ÷ₑ var 6 +ₑ zₑ ÷ₑ var 6) tt
      (fraction x (fraction y (fraction z (pos n.number ∷ [])))) e.crossed;
}

multiples : (k : ℤ) {x : ℚ} (y z : ℚ) → x ≈ y +ℚ z → k ·ℚ x ≈ k ·ℚ y +ℚ k ·ℚ z
multiples k {x} y z e = record {
  crossed = certified_sound ((var 6 · (xₑ ≈ₑ yₑ +ₑ zₑ)) ∷ []) (var 6 ·ₑ xₑ ≈ₑ var 6 ·ₑ yₑ +ₑ var 6 ·ₑ zₑ) tt
      (fraction x (fraction y (fraction z (k ∷ [])))) e.crossed;
}

-- ---- a sum of cubics

-- a coefficient as a fraction
abbrev term : Cubic → Power → ℚ
term f p = whole (coefficient f p) ÷ f.divisor

abbrev unit : Cell
unit = record { W = positive 1 tt; H = positive 1 tt }

module _ {f g h : Cubic} (e : SumOf f g h) where
  -- what is left of the sum without the first part is the second
  rest : difference h f ≅ g
  unfolding difference
  rest = record {
    coefficients = λ p. record {
      crossed = ap (λ c. c *ℤ (pos 1 *ℤ pos g.divisor.number)) (coefficient_difference h f p)
          ∙ deduce 6 (λ a c b d z n. (# 1 · (z ⊗ (# 1 ⊗ c ⊗ (# 1 ⊗ d)) ≐ (a ⊗ (# 1 ⊗ d) ⊕ b ⊗ (# 1 ⊗ c)) ⊗ (# 1 ⊗ n))) ∷ []
          ⊨ (z ⊗ c ⊝ a ⊗ n) ⊗ (# 1 ⊗ d) ≐ b ⊗ (# 1 ⊗ (n ⊗ c))) tt
          (coefficient f p) (pos f.divisor.number) (coefficient g p) (pos g.divisor.number) (coefficient h p) (pos h.divisor.number)
          (e.coefficients p).crossed;
    };
  }

  pub jets : (C : Cell) (P : Point) → jet C h P ≋ jet C f P +ⱼ jet C g P
  jets C P = record {
    heights = of_minus (jet C h P).height (jet C f P).height left.heights;
    x_slopes = of_minus (jet C h P).x_slope (jet C f P).x_slope left.x_slopes;
    y_slopes = of_minus (jet C h P).y_slope (jet C f P).y_slope left.y_slopes;
  }
    where
      left : jet C h P ⊟ jet C f P ≋ jet C g P
      left = ≋_trans {j = jet C h P ⊟ jet C f P} {k = jet C (difference h f) P} {l = jet C g P}
          (≋_sym (jet_difference C h f P)) (same_everywhere C (difference h f) g rest P)

  pub values : (P : Point) → value h P ≈ value f P +ℚ value g P
  unfolding jet
  values P = (jets unit P).heights

  -- ---- its derivatives

  times : (k : ℤ) (p : Power) → k ·ℚ term h p ≈ k ·ℚ term f p +ℚ k ·ℚ term g p
  times k p = multiples k (term f p) (term g p) (e.coefficients p)

  none : whole (pos 0) ÷ h.divisor ≈ whole (pos 0) ÷ f.divisor +ℚ whole (pos 0) ÷ g.divisor
  none = record {
    crossed = equal (wholeₑ (# 0) ÷ₑ var 2) (wholeₑ (# 0) ÷ₑ var 0 +ₑ wholeₑ (# 0) ÷ₑ var 1) tt
        (pos f.divisor.number ∷ pos g.divisor.number ∷ pos h.divisor.number ∷ []);
  }

  by_r_lem : SumOf (by_r f) (by_r g) (by_r h)
  unfolding by_r
  by_r_lem = record { coefficients = terms }
    where
      terms : (p : Power) → term (by_r h) p ≈ term (by_r f) p +ℚ term (by_r g) p
      terms one = e.coefficients r¹
      terms r¹ = times (pos 2) r²
      terms s¹ = e.coefficients rs
      terms r² = times (pos 3) r³
      terms rs = times (pos 2) r²s
      terms s² = e.coefficients rs²
      terms r³ = none
      terms r²s = none
      terms rs² = none
      terms s³ = none

  by_s_lem : SumOf (by_s f) (by_s g) (by_s h)
  unfolding by_s
  by_s_lem = record { coefficients = terms }
    where
      terms : (p : Power) → term (by_s h) p ≈ term (by_s f) p +ℚ term (by_s g) p
      terms one = e.coefficients s¹
      terms r¹ = e.coefficients rs
      terms s¹ = times (pos 2) s²
      terms r² = e.coefficients r²s
      terms rs = times (pos 2) rs²
      terms s² = times (pos 3) s³
      terms r³ = none
      terms r²s = none
      terms rs² = none
      terms s³ = none

  -- a second derivative has two divisors
  divided : (m n : Positive) (P : Point) → value h P ÷ m ÷ n ≈ value f P ÷ m ÷ n +ℚ value g P ÷ m ÷ n
  divided m n P = quotients n (value f P ÷ m) (value g P ÷ m) (quotients m (value f P) (value g P) (values P))

module _ {f g h : Cubic} (e : SumOf f g h) (C : Cell) (P : Point) where
  pub bends_xx_lem : (bend C h P).xx ≈ (bend C f P).xx +ℚ (bend C g P).xx
  unfolding bend
  bends_xx_lem = divided (by_r_lem (by_r_lem e)) C.W C.W P

  pub bends_xy_lem : (bend C h P).xy ≈ (bend C f P).xy +ℚ (bend C g P).xy
  unfolding bend
  bends_xy_lem = divided (by_s_lem (by_r_lem e)) C.W C.H P

  pub bends_yy_lem : (bend C h P).yy ≈ (bend C f P).yy +ℚ (bend C g P).yy
  unfolding bend
  bends_yy_lem = divided (by_s_lem (by_s_lem e)) C.H C.H P
