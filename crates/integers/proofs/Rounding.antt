-- The laws of `round`, from those of `floor_div`: round n d is the q with 2dq ≤ 2n + d < 2d(q + 1). Assumes nothing.
use mathlib.Core.Path.{◌≡◌}
use mathlib.Core.List.{[], ◌∷◌}
use Prim.Native.Nat.{ℕ, ◌*◌, ◌<◌}
use native.Mathlib.Nat.{mul-pos}
use native.Mathlib.Omega.{arith}
use lib.IntN.{ℤ, pos, ◌+ℤ◌, ◌-ℤ◌, ◌*ℤ◌}
use lib.Signed.{◌≤ℤ◌, ◌<ℤ◌}
use Rattle.integers.specs.Within.{◌within◌}
use Rattle.integers.specs.Round.{round, RoundingLaws}
use Rattle.integers.proofs.Polynomial.{#◌, ◌⊕◌, ◌⊗◌, ◌⊝◌, ⊖◌}
use Rattle.integers.proofs.Solve.{◌≐◌, ◌≼◌, ◌≺◌}
use Rattle.integers.proofs.Order.{<ℤ→suc≤ℤ, *ℤ_mono_r, pos_nonneg, below_next, <→<ℤ}
use Rattle.integers.proofs.Deduce.{◌·◌, ◌⊨◌, deduce}
use Rattle.integers.proofs.Bounds.{within_of_range}
use Rattle.integers.proofs.Floors.{floor_laws}

module _ (n : ℤ) (d : ℕ) (p : 0 < d) where
  twice : 0 < 2 * d
  twice = omega arith

  lower : (round n d *ℤ (pos 2 *ℤ pos d)) ≤ℤ (pos 2 *ℤ n +ℤ pos d)
  unfolding round
  lower = floor_laws.lower (pos 2 *ℤ n +ℤ pos d) (2 * d) twice

  upper : (pos 2 *ℤ n +ℤ pos d) <ℤ ((round n d +ℤ pos 1) *ℤ (pos 2 *ℤ pos d))
  unfolding round
  upper = floor_laws.upper (pos 2 *ℤ n +ℤ pos d) (2 * d) twice

  is : (q : ℤ) → (q *ℤ (pos 2 *ℤ pos d)) ≤ℤ (pos 2 *ℤ n +ℤ pos d) → (pos 2 *ℤ n +ℤ pos d) <ℤ ((q +ℤ pos 1) *ℤ (pos 2 *ℤ pos d)) → round n d ≡ q
  unfolding round
  is q h k = floor_laws.unique (pos 2 *ℤ n +ℤ pos d) q (2 * d) twice h k

  half_unit : (pos 2 *ℤ (round n d *ℤ pos d -ℤ n)) within d
  half_unit = within_of_range d
      (deduce 3 (λ r n d. (# 1 · (# 2 ⊗ n ⊕ d ≺ (r ⊕ # 1) ⊗ (# 2 ⊗ d))) ∷ [] ⊨ ⊖ d ≼ # 2 ⊗ (r ⊗ d ⊝ n)) tt (round n d) n (pos d) upper)
      (deduce 3 (λ r n d. (# 1 · (r ⊗ (# 2 ⊗ d) ≼ # 2 ⊗ n ⊕ d)) ∷ [] ⊨ # 2 ⊗ (r ⊗ d ⊝ n) ≼ d) tt (round n d) n (pos d) lower)

  nearest : (q : ℤ) → (pos 2 *ℤ (q *ℤ pos d -ℤ n)) <ℤ pos d → (pos 2 *ℤ (n -ℤ q *ℤ pos d)) <ℤ pos d → round n d ≡ q
  nearest q h k = is q
      (deduce 3 (λ q n d. (# 1 · (# 2 ⊗ (q ⊗ d ⊝ n) ≺ d)) ∷ [] ⊨ q ⊗ (# 2 ⊗ d) ≼ # 2 ⊗ n ⊕ d) tt q n (pos d) h)
      (deduce 3 (λ q n d. (# 1 · (# 2 ⊗ (n ⊝ q ⊗ d) ≺ d)) ∷ [] ⊨ # 2 ⊗ n ⊕ d ≺ (q ⊕ # 1) ⊗ (# 2 ⊗ d)) tt q n (pos d) k)

  tie : (q : ℤ) → pos 2 *ℤ n ≡ (pos 2 *ℤ q +ℤ pos 1) *ℤ pos d → round n d ≡ q +ℤ pos 1
  tie q e = is (q +ℤ pos 1)
      (deduce 3 (λ q n d. (⊖ # 1 · (# 2 ⊗ n ≐ (# 2 ⊗ q ⊕ # 1) ⊗ d)) ∷ [] ⊨ (q ⊕ # 1) ⊗ (# 2 ⊗ d) ≼ # 2 ⊗ n ⊕ d) tt q n (pos d) e)
      (deduce 3 (λ q n d. (# 1 · (# 2 ⊗ n ≐ (# 2 ⊗ q ⊕ # 1) ⊗ d)) ∷ (# 2 · (# 0 ≺ d)) ∷ [] ⊨ # 2 ⊗ n ⊕ d ≺ (q ⊕ # 1 ⊕ # 1) ⊗ (# 2 ⊗ d)) tt q n (pos d) e (<→<ℤ p))

whole : (k : ℤ) (d : ℕ) → 0 < d → round (k *ℤ pos d) d ≡ k
whole k d p = is (k *ℤ pos d) d p k
    (deduce 2 (λ k d. (# 1 · (# 0 ≺ d)) ∷ [] ⊨ k ⊗ (# 2 ⊗ d) ≼ # 2 ⊗ (k ⊗ d) ⊕ d) tt k (pos d) (<→<ℤ p))
    (deduce 2 (λ k d. (# 1 · (# 0 ≺ d)) ∷ [] ⊨ # 2 ⊗ (k ⊗ d) ⊕ d ≺ (k ⊕ # 1) ⊗ (# 2 ⊗ d)) tt k (pos d) (<→<ℤ p))

monotone : (m n : ℤ) (d : ℕ) → 0 < d → m ≤ℤ n → round m d ≤ℤ round n d
monotone m n d p h = below_next (round m d) (round n d) (2 * d)
    (deduce 5 (λ q r m n d. (# 1 · (q ⊗ (# 2 ⊗ d) ≼ # 2 ⊗ m ⊕ d)) ∷ (# 2 · (m ≼ n)) ∷ (# 1 · (# 2 ⊗ n ⊕ d ≺ (r ⊕ # 1) ⊗ (# 2 ⊗ d))) ∷ []
    ⊨ q ⊗ (# 2 ⊗ d) ≺ (r ⊕ # 1) ⊗ (# 2 ⊗ d)) tt (round m d) (round n d) m n (pos d) (lower m d p) h (upper n d p))

-- both bounds on round n d, times k
cancels : (n : ℤ) (d : ℕ) → 0 < d → (k : ℕ) → 0 < k → round (n *ℤ pos k) (d * k) ≡ round n d
cancels n d p k h = is (n *ℤ pos k) (d * k) (mul-pos p h) (round n d)
    (deduce 4 (λ r n d k. (# 1 · (r ⊗ (# 2 ⊗ d) ⊗ k ≼ (# 2 ⊗ n ⊕ d) ⊗ k)) ∷ [] ⊨ r ⊗ (# 2 ⊗ (d ⊗ k)) ≼ # 2 ⊗ (n ⊗ k) ⊕ d ⊗ k) tt
    (round n d) n (pos d) (pos k) (*ℤ_mono_r (pos_nonneg k) (lower n d p)))
    (deduce 4 (λ r n d k. (# 1 · ((# 2 ⊗ n ⊕ d ⊕ # 1) ⊗ k ≼ (r ⊕ # 1) ⊗ (# 2 ⊗ d) ⊗ k)) ∷ (# 1 · (# 0 ≺ k)) ∷ []
    ⊨ # 2 ⊗ (n ⊗ k) ⊕ d ⊗ k ≺ (r ⊕ # 1) ⊗ (# 2 ⊗ (d ⊗ k))) tt
    (round n d) n (pos d) (pos k) (*ℤ_mono_r (pos_nonneg k) (<ℤ→suc≤ℤ (upper n d p))) (<→<ℤ h))

pub rounding_laws : RoundingLaws
rounding_laws = record {
  half_unit = half_unit;
  whole = whole;
  monotone = monotone;
  cancels = cancels;
  nearest = nearest;
  down = lower;
  below = upper;
  only = is;
  tie = tie;
}
