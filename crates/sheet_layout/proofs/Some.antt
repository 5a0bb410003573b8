-- The laws of `some`: it is false exactly when the test is false of every number below n. Assumes nothing.
use Prim.Native.Nat.{ℕ, zero, suc, ◌<◌}
use mathlib.Core.Path.{◌≡◌, refl}
use mathlib.Core.Logic.{⊎_elim, ◌↔◌}
use mathlib.Core.Bool.{Bool, false}
use mathlib.Mathlib.Data.Bool.Basic.{or-eq-false-eq-eq-false-and-eq-false}
use native.Mathlib.Nat.{le_of_suc-le-suc, le_step, lt-suc_self, eq-or-lt_of_le}
use native.Mathlib.Omega.{arith}
use Rattle.sheet_layout.specs.Some.{some}

module _ (p : ℕ → Bool) where
  pub some_false_at : (n : ℕ) → some p n ≡ false → (k : ℕ) → k < n → p k ≡ false
  unfolding some
  some_false_at zero e k l = absurd (omega arith)
  some_false_at (suc n) e k l =
      let h = (or-eq-false-eq-eq-false-and-eq-false (some p n) (p n)).0 e in
      ⊎_elim (λ q. rw q h.1) (some_false_at n h.0 k) (eq-or-lt_of_le (le_of_suc-le-suc l))

  pub some_false : (n : ℕ) → ((k : ℕ) → k < n → p k ≡ false) → some p n ≡ false
  unfolding some
  some_false zero h = refl
  some_false (suc n) h = rw (some_false n (λ k l. h k (le_step l))) (h n (lt-suc_self n))

-- so it says of each what the test says there
pub some_fails : {p : ℕ → Bool} {P : ℕ → Type 0} (n : ℕ) → ((k : ℕ) → (p k ≡ false) ↔ P k) → (some p n ≡ false) ↔ ((k : ℕ) → k < n → P k)
some_fails {p} n h = (λ e k l. (h k).0 (some_false_at p n e k l), λ f. some_false p n (λ k l. (h k).1 (f k l)))
