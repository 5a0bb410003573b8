-- No square term is a straight line: a cross-edge slope differs from the line between its ends by the square term times t (1 − t). Assumes nothing.
use mathlib.Core.Path.{◌≡◌}
use mathlib.Core.List.{[], ◌∷◌}
use lib.IntN.{ℤ, pos}
use lib.Signed.{le_z_yes}
use Prim.Native.Nat.{◌*◌}
use native.Mathlib.Nat.{mul-pos}
use lib.Dec.{ltb→lt}
use Rattle.element_sibson.specs.Fraction.{Positive, ℚ, ◌≈◌, ◌+ℚ◌, ◌-ℚ◌, ◌*ℚ◌, ◌·ℚ◌, ◌÷◌, whole, half, complement}
use Rattle.element_sibson.specs.Cubic.{Cell, Cubic, value, by_r, by_s, jet}
use Rattle.element_sibson.specs.Piece.{Piece, top, right, bottom, left, edge}
use Rattle.element_sibson.specs.Conditions.{square_term, square_in_r, square_in_s}
use Rattle.element_sibson.specs.Sense.{cross_slope, Straight, Linearity}
use Rattle.integers.proofs.Polynomial.{var, #◌, ◌⊗◌, ⊖◌}
use Rattle.integers.proofs.Solve.{◌≐◌}
use Rattle.integers.proofs.Deduce.{◌·◌, certified_sound}
use Rattle.integers.proofs.Order.{*ℤ_cancel_r}
use Rattle.element_sibson.proofs.Fractions.{≈_sym, ≈_trans}
use Rattle.element_sibson.proofs.Quote.{complementₑ, Quotient, wholeₑ, ◌+ₑ◌, ◌-ₑ◌, ◌*ₑ◌, ◌·ₑ◌, ◌÷ₑ◌, valueₑ, by_rₑ, by_sₑ, squareₑ, equal, anyₑ, rₑ, any, ◌≈ₑ◌, nil, fractionₑ, fraction}

-- the size of the cell across a piece's edge
abbrev across : Cell → Piece → Positive
across C top = C.H
across C right = C.W
across C bottom = C.H
across C left = C.W

-- the line between the ends
abbrev line : Cell → Piece → Cubic → ℚ → ℚ
line C k f t = complement t *ℚ cross_slope C k f (edge k (whole (pos 0))) +ℚ t *ℚ cross_slope C k f (edge k (whole (pos 1)))

-- the slope's distance from it
abbrev sag : Cell → Piece → Cubic → ℚ → ℚ
sag C k f t = square_term k f ·ℚ (t *ℚ complement t) ÷ f.divisor ÷ across C k

-- ---- quoted, with t for r and variable 15 for the size across

abbrev slopeₑ : Piece → Quotient → Quotient
slopeₑ top t = valueₑ (by_sₑ anyₑ) t (wholeₑ (# 0)) ÷ₑ var 15
slopeₑ right t = valueₑ (by_rₑ anyₑ) (wholeₑ (# 1)) t ÷ₑ var 15
slopeₑ bottom t = valueₑ (by_sₑ anyₑ) t (wholeₑ (# 1)) ÷ₑ var 15
slopeₑ left t = valueₑ (by_rₑ anyₑ) (wholeₑ (# 0)) t ÷ₑ var 15

abbrev lineₑ : Piece → Quotient
lineₑ k = (complementₑ rₑ) *ₑ slopeₑ k (wholeₑ (# 0)) +ₑ rₑ *ₑ slopeₑ k (wholeₑ (# 1))

abbrev sagₑ : Piece → Quotient
sagₑ k = squareₑ k anyₑ ·ₑ (rₑ *ₑ (complementₑ rₑ)) ÷ₑ var 10 ÷ₑ var 15

sagging : (C : Cell) (k : Piece) (f : Cubic) (t : ℚ) → cross_slope C k f (edge k t) ≈ line C k f t -ℚ sag C k f t
unfolding cross_slope jet value by_r by_s square_term square_in_r square_in_s
sagging C top f t = record { crossed = equal (slopeₑ top rₑ) (lineₑ top -ₑ sagₑ top) tt (any f (record { r = t; s = t }) (pos C.H.number ∷ [])) }
sagging C right f t = record { crossed = equal (slopeₑ right rₑ) (lineₑ right -ₑ sagₑ right) tt (any f (record { r = t; s = t }) (pos C.W.number ∷ [])) }
sagging C bottom f t = record { crossed = equal (slopeₑ bottom rₑ) (lineₑ bottom -ₑ sagₑ bottom) tt (any f (record { r = t; s = t }) (pos C.H.number ∷ [])) }
sagging C left f t = record { crossed = equal (slopeₑ left rₑ) (lineₑ left -ₑ sagₑ left) tt (any f (record { r = t; s = t }) (pos C.W.number ∷ [])) }

-- ---- nothing is taken away exactly where the square term is 0

without : (x y : ℚ) (c : ℤ) → c ≡ pos 0 → x -ℚ c ·ℚ y ≈ x
without x y c e = let u = fractionₑ 0 in let v = fractionₑ 2 in record {
  crossed = certified_sound ((⊖ (v.num ⊗ u.den ⊗ u.den) · nil (var 4)) ∷ []) (u -ₑ var 4 ·ₑ v ≈ₑ u) tt (fraction x (fraction y (c ∷ []))) e;
}

nothing : (x z : ℚ) → x ≈ x -ℚ z → z.numerator ≡ pos 0
nothing x z e = let u = fractionₑ 0 in let v = fractionₑ 2 in let d = u.den ⊗ u.den in
    *ℤ_cancel_r (x.denominator.number * x.denominator.number) (mul-pos x.denominator.above x.denominator.above)
    (certified_sound ((# 1 · (u ≈ₑ u -ₑ v)) ∷ []) (v.num ⊗ d ≐ # 0 ⊗ d) tt (fraction x (fraction z [])) e.crossed)

straight : (C : Cell) (k : Piece) (f : Cubic) → square_term k f ≡ pos 0 → Straight C k f
unfolding Straight
straight C k f e t _ _ =
    ≈_trans {y = line C k f t -ℚ sag C k f t} (sagging C k f t) (without (line C k f t) ((t *ℚ complement t) ÷ f.divisor ÷ across C k) (square_term k f) e)

no_square : (C : Cell) (k : Piece) (f : Cubic) → Straight C k f → square_term k f ≡ pos 0
unfolding Straight
no_square C k f l = *ℤ_cancel_r 1 (ltb→lt 0 1 tt)
    (nothing (line C k f half) (sag C k f half)
    (≈_trans {y = cross_slope C k f (edge k half)} (≈_sym (l half (record { crossed = le_z_yes tt }) (record { crossed = le_z_yes tt }))) (sagging C k f half)))

pub linearity : Linearity
linearity = record { straight = λ C k f. (straight C k f, no_square C k f) }
