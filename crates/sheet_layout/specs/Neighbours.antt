-- Along an axis of n lines, the neighbours of line k, and of the node on it. Assumes nothing.
use Rattle.std.specs.Prelude.{ℕ, zero, suc, ◌<◌, ◌≡◌, cond, ltb}

-- the one before it; the first stands in for the one that is missing
unfoldable pub previous : ℕ → ℕ
previous zero = zero
previous (suc k) = k

-- the one after it; the last stands in for the one that is missing
unfoldable pub next : ℕ → ℕ → ℕ
next n k = cond (ltb (suc k) n) (suc k) k

-- an inner line has the one before and the one after it; an end line stands in for the one that is missing
pub record NeighbourLaws : Type 0 where
  pub before : (k : ℕ) → previous (suc k) ≡ k
  pub after : (n k : ℕ) → suc k < n → next n k ≡ suc k
  pub first : previous 0 ≡ 0
  pub last : (k : ℕ) → next (suc k) k ≡ k
