-- Texts one after the other: how long they are, and what changes nothing. Assumes nothing.
use Prim.Native.Nat.{ℕ, zero, suc, ◌*◌, ◌≤◌, ◌<◌}
use mathlib.Core.Path.{◌≡◌, refl, ◌∙◌}
use mathlib.Core.List.{List, [], ◌++◌, append-nil}
use native.Mathlib.Decide.{dec_lt}
use native.Mathlib.Nat.{mul-suc}
use native.Mathlib.Omega.{arith}
use lib.ListN.{length, length-append}
use Rattle.program_listing.specs.Listing.{sequence}

-- of m bytes at most
pub sequence_length : (f : ℕ → List ℕ) (m n : ℕ) → ((k : ℕ) → k < n → length (f k) ≤ m) → length (sequence f n) ≤ m * n
unfolding sequence
sequence_length f m zero h = omega arith
sequence_length f m (suc n) h =
    rw (length-append (sequence f n) (f n), mul-suc m n) (omega (arith, sequence_length f m n (λ k l. h k (omega arith)), h n (omega arith)))

-- one at least, each of which has a byte
pub sequence_some : (f : ℕ → List ℕ) (n : ℕ) → 0 < n → ((k : ℕ) → k < n → 0 < length (f k)) → 0 < length (sequence f n)
unfolding sequence
sequence_some f zero l h = absurd (omega arith)
sequence_some f (suc n) l h = rw (length-append (sequence f n) (f n)) (omega (arith, h n (omega arith)))

-- the same by another name
pub sequence_same : (f g : ℕ → List ℕ) (n : ℕ) → ((k : ℕ) → k < n → f k ≡ g k) → sequence f n ≡ sequence g n
unfolding sequence
sequence_same f g zero h = refl
sequence_same f g (suc n) h = let before = sequence_same f g n (λ k l. h k (omega arith)) in let last = h n (omega arith) in λ t. before t ++ last t

-- nothing comes after n of them
pub sequence_ended : (f : ℕ → List ℕ) (n k : ℕ) → ((j : ℕ) → n ≤ j → f j ≡ []) → n ≤ k → sequence f k ≡ sequence f n
unfolding sequence
sequence_ended f n zero h l = let e : n ≡ 0 = omega arith in rw e refl
sequence_ended f n (suc k) h l =
    elim (dec_lt k n) [
      | yes m ↦ let e : n ≡ suc k = omega arith in rw e refl
      | no m ↦ let e : n ≤ k = omega arith in rw (h k e) (append-nil (sequence f k) ∙ sequence_ended f n k h e)
    ]
