-- A fraction that changes by a share of a whole number, from 0 to 1 and below 1: whatever its rounding to the nearest, that follows. Assumes nothing.
use mathlib.Core.Logic.{inl, inr}
use mathlib.Core.List.{List, [], ◌∷◌}
use Prim.Native.Nat.{ℕ, zero, suc, ◌*◌, ◌<◌}
use native.Mathlib.Nat.{mul-pos}
use native.Mathlib.Omega.{arith}
use lib.IntN.{ℤ, pos, negsuc, ◌+ℤ◌, ◌*ℤ◌}
use lib.Signed.{◌≤ℤ◌, ◌<ℤ◌}
use Rattle.integers.proofs.Polynomial.{Expr, var, #◌, ◌⊕◌, ◌⊗◌, ◌⊝◌, ⊖◌}
use Rattle.integers.proofs.Solve.{◌≼◌, ◌≺◌}
use Rattle.integers.proofs.Deduce.{◌·◌, ◌⊨◌, deduce, certified_sound}
use Rattle.integers.proofs.Order.{*ℤ_mono_r, pos_nonneg, below_next, <ℤ→suc≤ℤ, ≤→≤ℤ, ≤ℤ_of_eq, ≤ℤ_or->}
use Rattle.integers.proofs.Bounds.{within_lower, within_upper, within_of_range}
use Rattle.element_sibson.specs.Fraction.{ℚ, ◌≈◌, ◌≤ℚ◌, ◌<ℚ◌, ◌+ℚ◌, ◌·ℚ◌, whole}
use Rattle.element_sibson.proofs.Fractions.{≈_sym, ≈_trans, ≤_antisym, ≤_right, fraction_laws}
use Rattle.element_sibson.proofs.Quote.{Quotient, wholeₑ, ◌+ₑ◌, ◌·ₑ◌, ◌≈ₑ◌, ◌≤ₑ◌, equal, fractionₑ, fraction}
use Rattle.element_reach.specs.Follows.{Follows}
use Rattle.element_reach.specs.Nudge.{Nearest}

-- ---- x and a share w of n

module _ (x w : ℚ) where
  abbrev xₑ : Quotient
  xₑ = fractionₑ 0

  abbrev wₑ : Quotient
  wₑ = fractionₑ 2

  abbrev given : ℕ → List ℤ
  given n = fraction x (fraction w (pos n ∷ []))

  -- n p², of which x + n w is made
  abbrev times : ℕ → ℕ
  times n = n * (x.denominator.number * x.denominator.number)

  abbrev timesₑ : Expr
  timesₑ = var 4 ⊗ (xₑ.den ⊗ xₑ.den)

  no_less : (n : ℕ) → whole (pos 0) ≤ℚ w → x ≤ℚ x +ℚ pos n ·ℚ w
  no_less n h = record {
    crossed = certified_sound ((# 1 · (# 0 ⊗ wₑ.den ⊗ timesₑ ≼ wₑ.num ⊗ # 1 ⊗ timesₑ)) ∷ []) (xₑ ≤ₑ xₑ +ₑ var 4 ·ₑ wₑ) tt (given n)
        (*ℤ_mono_r (pos_nonneg (times n)) h.crossed);
  }

  less : (n : ℕ) → w <ℚ whole (pos 1) → x +ℚ pos (suc n) ·ℚ w <ℚ x +ℚ whole (pos (suc n))
  less n h = let some : 0 < suc n = omega arith in record {
    crossed = certified_sound ((# 1 · ((wₑ.num ⊗ # 1 ⊕ # 1) ⊗ timesₑ ≼ # 1 ⊗ wₑ.den ⊗ timesₑ)) ∷ (# 1 · (# 1 ≼ timesₑ)) ∷ [])
        ((xₑ +ₑ var 4 ·ₑ wₑ).num ⊗ (xₑ +ₑ wholeₑ (var 4)).den ≺ (xₑ +ₑ wholeₑ (var 4)).num ⊗ (xₑ +ₑ var 4 ·ₑ wₑ).den) tt (given (suc n))
        (*ℤ_mono_r (pos_nonneg (times (suc n))) (<ℤ→suc≤ℤ h.crossed))
        (≤→≤ℤ (mul-pos some (mul-pos x.denominator.above x.denominator.above)));
  }

  none : x +ℚ pos 0 ·ℚ w ≈ x
  none = record { crossed = equal (xₑ +ₑ # 0 ·ₑ wₑ) xₑ tt (fraction x (fraction w [])) }

  -- downwards, x is y and a share of n + 1
  turned : {y : ℚ} (n : ℕ) → y ≈ x +ℚ negsuc n ·ℚ w → x ≈ y +ℚ pos (suc n) ·ℚ w
  turned {y} n e = record {
    crossed = certified_sound ((⊖ # 1 · (fractionₑ 4 ≈ₑ xₑ +ₑ ⊖ var 6 ·ₑ wₑ)) ∷ []) (xₑ ≈ₑ fractionₑ 4 +ₑ var 6 ·ₑ wₑ) tt
        (fraction x (fraction w (fraction y (pos (suc n) ∷ [])))) e.crossed;
  }

back : (n : ℕ) (k l : ℤ) → Follows (pos (suc n)) l k → Follows (negsuc n) k l
back n k l f = record {
  up = λ h. absurd h.le;
  down = λ h. f.up (pos_nonneg (suc n));
  most = within_of_range (suc n)
      (deduce 3 (λ k l m. (# 1 · (k ⊝ l ≼ m)) ∷ [] ⊨ ⊖ m ≼ l ⊝ k) tt k l (pos (suc n)) (within_upper f.most))
      (deduce 3 (λ k l m. (# 1 · (⊖ m ≼ k ⊝ l)) ∷ [] ⊨ l ⊝ k ≼ m) tt k l (pos (suc n)) (within_lower f.most));
}

below : {x y z : ℚ} → x ≈ y → y <ℚ z → x <ℚ z
below {x} {y} {z} e h = (fraction_laws.strict_order x z).1 (λ k. (fraction_laws.strict_order y z).0 h (≤_right k e))

-- ---- rounded

module _ {ρ : ℚ → ℤ} (nearest : Nearest ρ) where
  -- less than n apart, they are rounded to at most n apart: each moves by at most one half
  less_apart : (x y : ℚ) (n : ℕ) → y <ℚ x +ℚ whole (pos n) → ρ y ≤ℤ (ρ x +ℤ pos n)
  less_apart x y n h =
      let p = x.denominator.number in let q = y.denominator.number in
      below_next (ρ y) (ρ x +ℤ pos n) (2 * (p * q))
      (deduce 7 (λ k l a p b q n.
      (# 1 · ((l ⊗ q ⊕ ⊖ # 1 ⊗ b ⊗ # 1) ⊗ (# 1 ⊗ # 2) ⊗ p ≼ # 1 ⊗ (# 1 ⊗ q) ⊗ p)) ∷
      (# 1 · (⊖ # 1 ⊗ # 1 ⊗ (# 1 ⊗ p) ⊗ q ≼ (k ⊗ p ⊕ ⊖ # 1 ⊗ a ⊗ # 1) ⊗ (# 1 ⊗ # 2) ⊗ q)) ∷
      (# 2 · (b ⊗ (p ⊗ # 1) ≺ (a ⊗ # 1 ⊕ n ⊗ p) ⊗ q)) ∷ []
      ⊨ l ⊗ (# 2 ⊗ (p ⊗ q)) ≺ (k ⊕ n ⊕ # 1) ⊗ (# 2 ⊗ (p ⊗ q))) tt
      (ρ x) (ρ y) x.numerator (pos p) y.numerator (pos q) (pos n)
      (*ℤ_mono_r (pos_nonneg p) (nearest.near y).upper.crossed) (*ℤ_mono_r (pos_nonneg q) (nearest.near x).lower.crossed) h.crossed)

  -- so the order is kept: equal ones go to the same, others are less than 0 apart
  ordered : {x y : ℚ} → x ≤ℚ y → ρ x ≤ℤ ρ y
  ordered {x} {y} h = elim (≤ℤ_or-> (y.numerator *ℤ pos x.denominator.number) (x.numerator *ℤ pos y.denominator.number)) [
    | inl k ↦ ≤ℤ_of_eq (nearest.alike (≤_antisym h (record { crossed = k })))
    | inr k ↦ deduce 2 (λ k l. (# 1 · (l ≼ k ⊕ # 0)) ∷ [] ⊨ l ≼ k) tt (ρ y) (ρ x) (less_apart y x 0 (beyond k))
  ]
    where
      beyond : (x.numerator *ℤ pos y.denominator.number) <ℤ (y.numerator *ℤ pos x.denominator.number) → x <ℚ y +ℚ whole (pos 0)
      beyond k = record {
        crossed = certified_sound ((# 1 · ((fractionₑ 0).num ⊗ (fractionₑ 2).den ≺ (fractionₑ 2).num ⊗ (fractionₑ 0).den)) ∷ [])
            ((fractionₑ 0).num ⊗ (fractionₑ 2 +ₑ wholeₑ (# 0)).den ≺ (fractionₑ 2 +ₑ wholeₑ (# 0)).num ⊗ (fractionₑ 0).den) tt (fraction x (fraction y [])) k;
      }

  module _ (x w : ℚ) {y : ℚ} (least : whole (pos 0) ≤ℚ w) (below_one : w <ℚ whole (pos 1)) where
    at_most : (n : ℕ) → y ≈ x +ℚ pos n ·ℚ w → ρ y ≤ℤ (ρ x +ℤ pos n)
    at_most zero e = deduce 2 (λ k l. (# 1 · (l ≼ k)) ∷ [] ⊨ l ≼ k ⊕ # 0) tt (ρ x) (ρ y) (≤ℤ_of_eq (nearest.alike (≈_trans e (none x w))))
    at_most (suc n) e = less_apart x y (suc n) (below e (less x w n below_one))

    rises : (n : ℕ) → y ≈ x +ℚ pos n ·ℚ w → Follows (pos n) (ρ x) (ρ y)
    rises n e = let low = ordered (≤_right (no_less x w n least) (≈_sym e)) in let high = at_most n e in record {
      up = λ h. low;
      down = λ h. deduce 3 (λ k l n. (# 1 · (l ≼ k ⊕ n)) ∷ (# 1 · (n ≼ # 0)) ∷ [] ⊨ l ≼ k) tt (ρ x) (ρ y) (pos n) high h;
      most = within_of_range n
          (deduce 3 (λ k l n. (# 1 · (k ≼ l)) ∷ (# 1 · (# 0 ≼ n)) ∷ [] ⊨ ⊖ n ≼ l ⊝ k) tt (ρ x) (ρ y) (pos n) low (pos_nonneg n))
          (deduce 3 (λ k l n. (# 1 · (l ≼ k ⊕ n)) ∷ [] ⊨ l ⊝ k ≼ n) tt (ρ x) (ρ y) (pos n) high);
    }

  pub shares : (x w : ℚ) {y : ℚ} (z : ℤ) → y ≈ x +ℚ z ·ℚ w → whole (pos 0) ≤ℚ w → w <ℚ whole (pos 1) → Follows z (ρ x) (ρ y)
  shares x w (pos n) e least below_one = rises x w least below_one n e
  shares x w {y} (negsuc n) e least below_one = back n (ρ x) (ρ y) (rises y w least below_one (suc n) (turned x w n e))
