-- Lines that rise: their order is that of their positions. Assumes nothing.
use Prim.Native.Nat.{ℕ, zero, suc, ◌≤◌, ◌<◌}
use mathlib.Core.Path.{◌≡◌}
use native.Mathlib.Decide.{ℕ_discrete, dec_lt}
use native.Mathlib.Omega.{arith}
use Rattle.sheet_calls.specs.WellFormed.{Rising}

module _ {line : ℕ → ℕ} {n : ℕ} (r : Rising line n) where
  -- a later line lies no nearer
  pub rise : (i k : ℕ) → i ≤ k → k < n → line i ≤ line k
  rise i zero l m = let same : i ≡ 0 = omega arith in rw same (omega arith)
  rise i (suc k) l m = elim (ℕ_discrete i (suc k)) [
    | yes e ↦ rw e (omega arith)
    | no d ↦ let before = rise i k (omega arith) (omega arith) in let up = r.rises k m in omega arith
  ]

  -- and a line that lies no nearer is no earlier
  pub rise_back : (i k : ℕ) → i < n → line i ≤ line k → i ≤ k
  rise_back i k m h = elim (dec_lt k i) [
    | yes late ↦ absurd (let up = r.rises k (omega arith) in let further = rise (suc k) i (omega arith) m in omega arith)
    | no early ↦ omega arith
  ]
