-- The difference of two cubics: its heights and slopes are the differences, and it is 0 exactly when the two are equal. Assumes nothing.
use mathlib.Core.Path.{◌≡◌, refl, sym, ◌∙◌, ap}
use mathlib.Core.List.{List, [], ◌∷◌}
use Prim.Native.Nat.{◌*◌}
use lib.IntN.{ℤ, pos, ◌-ℤ◌, ◌*ℤ◌}
use Rattle.element_sibson.specs.Fraction.{◌≈◌, ◌-ℚ◌, ◌*⁺◌}
use Rattle.element_sibson.specs.Cubic.{Cell, Point, Cubic, Power, coefficient, cubic_of, ◌≅◌, value, by_r, by_s, Jet, jet, ◌≋◌}
use Rattle.element_sibson.specs.Piece.{Piece, top, right, bottom, left}
use Rattle.element_sibson.specs.Conditions.{square_term, square_in_r, square_in_s}
use Rattle.integers.proofs.Polynomial.{Expr, #◌, ◌⊕◌, ◌⊗◌, ◌⊝◌, ⊖◌}
use Rattle.integers.proofs.Solve.{◌≐◌}
use Rattle.integers.proofs.Deduce.{Used, ◌·◌, ◌⊨◌, deduce, certified_sound}
use Rattle.element_sibson.proofs.Fractions.{≈_sym, ≈_trans, ≈--, ≈-÷_minus}
use Rattle.element_sibson.proofs.Jets.{≋_sym, ≋_trans, ◌⊟◌, none, ≋_of_minus}
use Rattle.element_sibson.proofs.Quote.{Cubicₑ, coefficientₑ, cubic_ofₑ, nil, squareₑ, cubicₑ, fractionₑ, cubic, fraction, same_three_lem}
use Rattle.element_sibson.proofs.Evaluate.{numerator, cubes, common, value_is, numerators_at, numeratorsₑ}
use Rattle.element_sibson.proofs.Coefficients.{coefficient_of, Zero, zero_jet}

unfoldable pub difference : Cubic → Cubic → Cubic
difference f g =
    cubic_of (λ p. coefficient f p *ℤ pos g.divisor.number -ℤ coefficient g p *ℤ pos f.divisor.number) (f.divisor *⁺ g.divisor)

-- ---- quoted: two cubics, then a point

abbrev fₑ : Cubicₑ
fₑ = cubicₑ 0

abbrev gₑ : Cubicₑ
gₑ = cubicₑ 11

abbrev differenceₑ : Cubicₑ
differenceₑ = cubic_ofₑ (λ p. coefficientₑ fₑ p ⊗ gₑ.divisor ⊝ coefficientₑ gₑ p ⊗ fₑ.divisor) (fₑ.divisor ⊗ gₑ.divisor)

-- ---- heights and slopes

-- a value over both divisors, whose numerator is the difference less
minus : (h f g : Cubic) (P : Point) → h.divisor.number ≡ f.divisor.number * g.divisor.number →
    numerator h P ≡ numerator f P *ℤ pos g.divisor.number -ℤ numerator g P *ℤ pos f.divisor.number → value h P ≈ value f P -ℚ value g P
minus h f g P d e = ≈_trans {y = common h P} (value_is h P)
    (≈_trans {y = common f P -ℚ common g P} (record { crossed = crossed }) (≈_sym (≈-- (value_is f P) (value_is g P))))
  where
    crossed : (common h P).numerator *ℤ pos (common f P -ℚ common g P).denominator.number
        ≡ (common f P -ℚ common g P).numerator *ℤ pos (common h P).denominator.number
    crossed = deduce 7 (λ x y z d d' d'' n. (d ⊗ n ⊗ (d' ⊗ n) · (x ≐ y ⊗ d' ⊝ z ⊗ d)) ∷ (⊖ ((y ⊗ d' ⊝ z ⊗ d) ⊗ n ⊗ n) · (d'' ≐ d ⊗ d')) ∷ []
        ⊨ x ⊗ (d ⊗ n ⊗ (d' ⊗ n)) ≐ (y ⊗ (d' ⊗ n) ⊕ ⊖ # 1 ⊗ z ⊗ (d ⊗ n)) ⊗ (d'' ⊗ n)) tt
        (numerator h P) (numerator f P) (numerator g P) (pos f.divisor.number) (pos g.divisor.number) (pos h.divisor.number)
        (pos (cubes P).number) e (ap pos d)

abbrev less : Jet ℤ → Jet ℤ → Cubic → Cubic → Jet ℤ
less a b f g = let d = pos f.divisor.number in let d' = pos g.divisor.number in record {
  height = a.height *ℤ d' -ℤ b.height *ℤ d;
  x_slope = a.x_slope *ℤ d' -ℤ b.x_slope *ℤ d;
  y_slope = a.y_slope *ℤ d' -ℤ b.y_slope *ℤ d;
}

abbrev lessₑ : Jet Expr → Jet Expr → Jet Expr
lessₑ a b = let d = fₑ.divisor in let d' = gₑ.divisor in record {
  height = a.height ⊗ d' ⊝ b.height ⊗ d;
  x_slope = a.x_slope ⊗ d' ⊝ b.x_slope ⊗ d;
  y_slope = a.y_slope ⊗ d' ⊝ b.y_slope ⊗ d;
}

numerators_difference : (f g : Cubic) (P : Point) → numerators_at (difference f g) P ≡ less (numerators_at f P) (numerators_at g P) f g
unfolding numerators_at numerator by_r by_s difference
numerators_difference f g P = let r = fractionₑ 22 in let s = fractionₑ 24 in
    same_three_lem (numeratorsₑ differenceₑ r s) (lessₑ (numeratorsₑ fₑ r s) (numeratorsₑ gₑ r s)) tt (cubic f (cubic g (fraction P.r (fraction P.s []))))

pub jet_difference : (C : Cell) (f g : Cubic) (P : Point) → jet C (difference f g) P ≋ jet C f P ⊟ jet C g P
unfolding jet numerators_at by_r by_s difference
jet_difference C f g P = let e = numerators_difference f g P in record {
  heights = minus (difference f g) f g P refl (ap (λ j. j.height) e);
  x_slopes = ≈-÷_minus C.W (value (by_r f) P) (value (by_r g) P) (minus (by_r (difference f g)) (by_r f) (by_r g) P refl (ap (λ j. j.x_slope) e));
  y_slopes = ≈-÷_minus C.H (value (by_s f) P) (value (by_s g) P) (minus (by_s (difference f g)) (by_s f) (by_s g) P refl (ap (λ j. j.y_slope) e));
}

-- ---- square terms

abbrev squares : Piece → List Used
squares k = (gₑ.divisor · nil (squareₑ k fₑ)) ∷ (⊖ fₑ.divisor · nil (squareₑ k gₑ)) ∷ []

pub square_difference : (k : Piece) (f g : Cubic) → square_term k f ≡ pos 0 → square_term k g ≡ pos 0 → square_term k (difference f g) ≡ pos 0
unfolding square_term square_in_r square_in_s by_r by_s difference
square_difference top f g a b = certified_sound (squares top) (nil (squareₑ top differenceₑ)) tt (cubic f (cubic g [])) a b
square_difference right f g a b = certified_sound (squares right) (nil (squareₑ right differenceₑ)) tt (cubic f (cubic g [])) a b
square_difference bottom f g a b = certified_sound (squares bottom) (nil (squareₑ bottom differenceₑ)) tt (cubic f (cubic g [])) a b
square_difference left f g a b = certified_sound (squares left) (nil (squareₑ left differenceₑ)) tt (cubic f (cubic g [])) a b

-- ---- no difference

pub coefficient_difference : (f g : Cubic) (p : Power) →
    coefficient (difference f g) p ≡ coefficient f p *ℤ pos g.divisor.number -ℤ coefficient g p *ℤ pos f.divisor.number
unfolding difference
coefficient_difference f g p =
    coefficient_of (λ q. coefficient f q *ℤ pos g.divisor.number -ℤ coefficient g q *ℤ pos f.divisor.number) (f.divisor *⁺ g.divisor) p

pub equal_of_zero : (f g : Cubic) → Zero (difference f g) → f ≅ g
unfolding Zero
equal_of_zero f g z = record {
  coefficients = λ p. record {
    crossed = deduce 4 (λ a d b e. (# 1 · (a ⊗ e ⊝ b ⊗ d ≐ # 0)) ∷ [] ⊨ a ⊗ (# 1 ⊗ e) ≐ b ⊗ (# 1 ⊗ d)) tt
        (coefficient f p) (pos f.divisor.number) (coefficient g p) (pos g.divisor.number) (sym (coefficient_difference f g p) ∙ z p);
  };
}

zero_of_equal : (f g : Cubic) → f ≅ g → Zero (difference f g)
unfolding Zero
zero_of_equal f g e p = coefficient_difference f g p
    ∙ deduce 4 (λ a d b e. (# 1 · (a ⊗ (# 1 ⊗ e) ≐ b ⊗ (# 1 ⊗ d))) ∷ [] ⊨ a ⊗ e ⊝ b ⊗ d ≐ # 0) tt
    (coefficient f p) (pos f.divisor.number) (coefficient g p) (pos g.divisor.number) (e.coefficients p).crossed

-- equal cubics have the same height and slopes everywhere
pub same_everywhere : (C : Cell) (f g : Cubic) → f ≅ g → (P : Point) → jet C f P ≋ jet C g P
same_everywhere C f g e P = ≋_of_minus {j = jet C f P} {k = jet C g P}
    (≋_trans {j = jet C f P ⊟ jet C g P} {k = jet C (difference f g) P} {l = none}
    (≋_sym (jet_difference C f g P)) (zero_jet C (difference f g) (zero_of_equal f g e) P))
