-- What the loop over an axis's lines gathers. Assumes nothing.
use Prim.Native.Nat.{ℕ, zero, suc, ◌+◌, ◌-◌, ◌≤◌}
use mathlib.Core.Path.{◌≡◌, sym, ◌∙◌, ap}
use mathlib.Core.Bool.{Bool, ◌||◌}
use native.Mathlib.Omega.{arith}
use Rattle.sheet_layout.specs.Some.{some}
use Rattle.sheet_calls.specs.Refusals.{wrong_step, wrong_line}
use Rattle.sheet_layout.proofs.Gathered.{gathered}

module _ (line : ℕ → ℕ) where
  stepped : (k : ℕ) → 1 ≤ k → wrong_line line k ≡ wrong_step (line (k - 1)) (line k)
  unfolding wrong_line
  stepped zero h = absurd (omega arith)
  stepped (suc k) h = let e : k ≡ suc k - 1 = omega arith in ap (λ i. wrong_step (line i) (line (suc k))) e

  pub next_line : (k : ℕ) → 1 ≤ k → (flag test : Bool) (before position : ℕ) → flag ≡ some (wrong_line line) k → before ≡ line (k - 1) → position ≡ line k
      → test ≡ wrong_step before position → flag || test ≡ some (wrong_line line) (k + 1)
  next_line k h flag test before position e f g t = gathered (wrong_line line) k flag test e (t ∙ rw (f, g) (sym (stepped k h)))
