-- The laws of `some` by which a loop gathers a flag, and by which one loop over all numbers does for loops over rows, nodes and their numbers. Assumes nothing.
use Prim.Native.Nat.{ℕ, zero, suc, ◌+◌, ◌*◌, ◌≤◌, ◌<◌}
use mathlib.Core.Path.{◌≡◌, refl, sym}
use mathlib.Core.Bool.{Bool, ◌||◌, or-false, or_assoc}
use native.Mathlib.Nat.{le_antisymm, le_step, lt-suc_self, add-zero, add-suc, zero-mul, suc-mul}
use native.Mathlib.Numerals.{add-one}
use Rattle.sheet_layout.specs.Some.{some}

-- ---- a loop's flag

pub gathered : (p : ℕ → Bool) (k : ℕ) (flag test : Bool) → flag ≡ some p k → test ≡ p k → flag || test ≡ some p (k + 1)
unfolding some
gathered p k flag test e h = rw (add-one k, e, h) refl

pub gathered_all : (p : ℕ → Bool) (k n : ℕ) (flag : Bool) → k ≤ n → n ≤ k → flag ≡ some p k → flag ≡ some p n
gathered_all p k n flag a b e = rw (le_antisymm b a) e

-- ---- one loop for several

pub some_cong : (p q : ℕ → Bool) (n : ℕ) → ((k : ℕ) → k < n → p k ≡ q k) → some p n ≡ some q n
unfolding some
some_cong p q zero h = refl
some_cong p q (suc n) h = rw (some_cong p q n (λ k l. h k (le_step l)), h n (lt-suc_self n)) refl

some_append : (p : ℕ → Bool) (a b : ℕ) → some p (a + b) ≡ some p a || some (λ k. p (a + k)) b
unfolding some
some_append p a zero = rw (add-zero a) (sym (or-false (some p a)))
some_append p a (suc b) = rw (add-suc a b, some_append p a b) (or_assoc (some p a) _ _)

-- n rows of m each
pub some_rows : (p : ℕ → Bool) (m n : ℕ) → some p (n * m) ≡ some (λ j. some (λ i. p (j * m + i)) m) n
unfolding some
some_rows p m zero = rw (zero-mul m) refl
some_rows p m (suc n) = rw (suc-mul n m, some_append p (n * m) m, some_rows p m n) refl
