-- Lines rise from the one before a line to the one after it, and lie at most two gaps apart. Assumes nothing.
use Prim.Native.Nat.{ℕ, zero, suc, ◌+◌, ◌≤◌, ◌<◌}
use native.Mathlib.Omega.{arith}
use Rattle.sheet_layout.specs.Neighbours.{previous, next}
use Rattle.sheet_layout.proofs.NeighbourLaws.{next_ind, next-<, previous-<_next}
use Rattle.sheet_calls.specs.WellFormed.{Rising}
use Rattle.sheet_calls.proofs.Rising.{rise}
use Rattle.sheet_slopes.specs.Slopes.{distance}

pub lines_apart : {line : ℕ → ℕ} (n : ℕ) → 2 ≤ n → Rising line n → (k : ℕ) → k < n → line (previous k) < line (next n k)
lines_apart {line} n two r k l =
    let there = next-< n k l in
    let apart = previous-<_next n k two l in
    let up = r.rises (previous k) (omega arith) in
    let further = rise r (suc (previous k)) (next n k) apart there in
    omega arith

pub distance_above : {line : ℕ → ℕ} (n : ℕ) → 2 ≤ n → Rising line n → (k : ℕ) → k < n → 0 < distance n line k
unfolding distance
distance_above n two r k l = omega (arith, lines_apart n two r k l)

-- at most two gaps
pub lines_near : {line : ℕ → ℕ} (n : ℕ) → Rising line n → (k : ℕ) → k < n → line (next n k) ≤ line (previous k) + 128
unfolding previous
lines_near {line} n r zero l = next_ind n zero (λ m. line m ≤ line zero + 128) (λ h. omega (arith, r.narrow zero h)) (λ h. omega arith)
lines_near {line} n r (suc k) l =
    let gap = r.narrow k l in
    next_ind n (suc k) (λ m. line m ≤ line k + 128) (λ h. omega (arith, r.narrow (suc k) h, gap)) (λ h. omega (arith, gap))
