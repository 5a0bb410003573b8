-- The lines before and after line k of an axis: which they are, and how they lie. Assumes nothing.
use Prim.Native.Nat.{ℕ, zero, suc, ◌+◌, ◌-◌, ◌≤◌, ◌<◌, min}
use mathlib.Core.Path.{◌≡◌, refl}
use native.Mathlib.Omega.{arith}
use lib.Dec.{ltb, ltb→lt, nltb→le}
use Rattle.integers.proofs.Order.{cond_ind}
use Rattle.sheet_layout.specs.Neighbours.{previous, next, NeighbourLaws}

-- the line after line k is the next one, or at the end k itself
pub next_ind : (n k : ℕ) (P : ℕ → Type 0) → (suc k < n → P (suc k)) → (n ≤ suc k → P k) → P (next n k)
unfolding next
next_ind n k P f g = cond_ind (ltb (suc k) n) (suc k) k P (λ t. f (ltb→lt (suc k) n t)) (λ t. g (nltb→le (suc k) n t))

pub last_is : (n k : ℕ) → n ≤ suc k → next n k ≡ k
last_is n k l = next_ind n k (λ m. m ≡ k) (λ h. absurd (omega arith)) (λ h. refl)

pub neighbour_laws : NeighbourLaws
unfolding previous
neighbour_laws = record {
  before = λ k. refl;
  after = λ n k l. next_ind n k (λ m. m ≡ suc k) (λ h. refl) (λ h. absurd (omega arith));
  first = refl;
  last = λ k. last_is (suc k) k (omega arith);
}

-- one more, but no more than the last
pub one_more : (n k : ℕ) → k < n → min (k + 1) (n - 1) ≡ next n k
one_more n k l = next_ind n k (λ m. min (k + 1) (n - 1) ≡ m) (λ h. omega arith) (λ h. omega arith)

-- 0 − 1 is 0
pub one_less : (k : ℕ) → k - 1 ≡ previous k
unfolding previous
one_less zero = refl
one_less (suc k) = omega arith

-- ---- how they lie

pub previous-≤ : (k : ℕ) → previous k ≤ k
unfolding previous
previous-≤ zero = omega arith
previous-≤ (suc k) = omega arith

next-≥ : (n k : ℕ) → k ≤ next n k
next-≥ n k = next_ind n k (λ m. k ≤ m) (λ h. omega arith) (λ h. omega arith)

pub next-< : (n k : ℕ) → k < n → next n k < n
next-< n k l = next_ind n k (λ m. m < n) (λ h. h) (λ h. l)

pub previous-<_next : (n k : ℕ) → 2 ≤ n → k < n → previous k < next n k
unfolding previous
previous-<_next n zero two l = next_ind n zero (λ m. zero < m) (λ h. omega arith) (λ h. absurd (omega arith))
previous-<_next n (suc k) two l = let after = next-≥ n (suc k) in omega arith
