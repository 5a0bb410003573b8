-- In the cell a cubic's value is at most the sum of its absolute coefficients, over its divisor, and its derivatives' sums are at most 3 and 6 times its own. Assumes nothing.
use mathlib.Core.List.{[], ◌∷◌}
use Prim.Native.Nat.{ℕ, ◌*◌, ◌≤◌}
use native.Mathlib.Omega.{arith}
use lib.IntN.{ℤ, pos}
use Rattle.integers.specs.Within.{◌within◌}
use Rattle.integers.proofs.Polynomial.{#◌, ◌⊗◌, ⊖◌}
use Rattle.integers.proofs.Solve.{◌≼◌}
use Rattle.integers.proofs.Deduce.{◌·◌, ◌⊨◌, deduce}
use Rattle.integers.proofs.Order.{pos_nonneg}
use Rattle.integers.proofs.Bounds.{nat_abs-*, within_self, within_mono, within-+, within-*, within_of_range}
use Rattle.element_sibson.specs.Fraction.{ℚ, ◌≤ℚ◌, whole, ◌÷◌}
use Rattle.element_sibson.specs.Cubic.{Point, Cubic, value, by_r, by_s}
use Rattle.element_sibson.specs.Piece.{InCell}
use Rattle.element_cell.specs.Coefficients.{listed, size}
use Rattle.element_readings.specs.Reading.{◌withinℚ◌}
use Rattle.element_readings.proofs.Form.{form, common, value_within}

-- ---- values

form_within : (f : Cubic) {A B : ℤ} {Q : ℕ} → A within Q → B within Q → form f A B (pos Q) within (size (listed f) * (Q * Q * Q))
unfolding form size listed
form_within f {Q = Q} a b = let q = within_self (pos Q) in within_mono
    (within-+ (within-+ (within-+ (within-+ (within-+ (within-+ (within-+ (within-+ (within-+
    (within-* (within_self f.c00) (within-* (within-* q q) q)) (within-* (within_self f.c10) (within-* (within-* a q) q))) (within-* (within_self f.c01) (within-* (within-* b q) q)))
    (within-* (within_self f.c20) (within-* (within-* a a) q))) (within-* (within_self f.c11) (within-* (within-* a b) q))) (within-* (within_self f.c02) (within-* (within-* b b) q)))
    (within-* (within_self f.c30) (within-* (within-* a a) a))) (within-* (within_self f.c21) (within-* (within-* a a) b))) (within-* (within_self f.c12) (within-* (within-* a b) b)))
    (within-* (within_self f.c03) (within-* (within-* b b) b)))
    (omega arith)

-- 0 ≤ x ≤ 1
proper : {x : ℚ} → whole (pos 0) ≤ℚ x → x ≤ℚ whole (pos 1) → x.numerator within x.denominator.number
proper {x} h k = within_of_range x.denominator.number
    (deduce 2 (λ a p. (# 1 · (# 0 ⊗ p ≼ a ⊗ # 1)) ∷ (# 1 · (# 0 ≼ p)) ∷ [] ⊨ ⊖ p ≼ a) tt x.numerator (pos x.denominator.number) h.crossed (pos_nonneg x.denominator.number))
    (deduce 2 (λ a p. (# 1 · (a ⊗ # 1 ≼ # 1 ⊗ p)) ∷ [] ⊨ a ≼ p) tt x.numerator (pos x.denominator.number) k.crossed)

pub cell_within : (f : Cubic) (P : Point) → InCell P → value f P withinℚ whole (pos (size (listed f))) ÷ f.divisor
cell_within f P c = let p = P.r.denominator.number in let q = P.s.denominator.number in value_within f (size (listed f)) (common P)
    (form_within f (within-* (proper c.from_left c.to_right) (within_self (pos q))) (within_mono (within-* (proper c.from_top c.to_bottom) (within_self (pos p))) (omega arith)))

-- ---- derivatives

pub size_by_r : (f : Cubic) → size (listed (by_r f)) ≤ 3 * size (listed f)
unfolding size listed by_r
size_by_r f = simp nat_abs-* (omega arith)

pub size_by_s : (f : Cubic) → size (listed (by_s f)) ≤ 3 * size (listed f)
unfolding size listed by_s
size_by_s f = simp nat_abs-* (omega arith)

pub size_by_r_by_r : (f : Cubic) → size (listed (by_r (by_r f))) ≤ 6 * size (listed f)
unfolding size listed by_r
size_by_r_by_r f = simp nat_abs-* (omega arith)

pub size_by_s_by_r : (f : Cubic) → size (listed (by_s (by_r f))) ≤ 6 * size (listed f)
unfolding size listed by_r by_s
size_by_s_by_r f = simp nat_abs-* (omega arith)

pub size_by_s_by_s : (f : Cubic) → size (listed (by_s (by_s f))) ≤ 6 * size (listed f)
unfolding size listed by_s
size_by_s_by_s f = simp nat_abs-* (omega arith)
