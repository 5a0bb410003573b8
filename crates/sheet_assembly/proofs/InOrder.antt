-- Things one behind the other: how long they are together, and where each lies, where all have one length, a; and stretches of a list. Assumes nothing.
use Prim.Native.Nat.{ℕ, zero, suc, ◌+◌, ◌*◌, ◌<◌}
use mathlib.Core.Path.{◌≡◌, refl, sym, ◌∙◌}
use mathlib.Core.Logic.{⊎_elim}
use mathlib.Core.List.{List, ◌++◌, append_assoc, append-nil}
use native.Mathlib.Nat.{add-zero, add-suc, zero-mul, suc-mul, mul-zero, mul-suc, mul-le-mul_left, le_of_suc-le-suc, le_step, lt-suc_self, le_of_eq, eq-or-lt_of_le}
use native.Mathlib.Omega.{arith}
use lib.ListN.{length, take, drop, length-append}
use lib.Seq.{take_all, drop_at, drop-drop, take-add}
use Rattle.sheet_words.specs.Word.{Bytes}
use Rattle.sheet_words.proofs.Bytes.{bytes_append}
use Rattle.sheet_assembly.specs.Assembled.{in_order}
use Rattle.sheet_assembly.proofs.Stretches.{front_stretch}

pub in_order_same : (f g : ℕ → List ℕ) (n : ℕ) → ((k : ℕ) → k < n → f k ≡ g k) → in_order f n ≡ in_order g n
unfolding in_order
in_order_same f g zero same = refl
in_order_same f g (suc n) same = rw (in_order_same f g n (λ k h. same k (le_step h)), same n (lt-suc_self n)) refl

module _ (f : ℕ → List ℕ) (a : ℕ) where
  pub in_order_length : (n : ℕ) → ((k : ℕ) → k < n → length (f k) ≡ a) → length (in_order f n) ≡ a * n
  unfolding in_order
  in_order_length zero each = omega arith
  in_order_length (suc n) each =
      omega (arith, length-append (in_order f n) (f n), in_order_length n (λ k h. each k (le_step h)), each n (lt-suc_self n), mul-suc a n)

  pub in_order_at : (n : ℕ) → ((k : ℕ) → k < n → length (f k) ≡ a) → (k : ℕ) → k < n → take a (drop (a * k) (in_order f n)) ≡ f k
  unfolding in_order
  in_order_at zero each k h = absurd (omega arith)
  in_order_at (suc n) each k h = ⊎_elim last (λ l. earlier l (in_order_at n before k l)) (eq-or-lt_of_le (le_of_suc-le-suc h))
    where
      before : (k : ℕ) → k < n → length (f k) ≡ a
      before k h = each k (le_step h)

      size : length (in_order f n) ≡ a * n
      size = in_order_length n before

      last : k ≡ n → take a (drop (a * k) (in_order f n ++ f n)) ≡ f k
      last e = rw (e, drop_at (in_order f n) (f n) (a * n) size) (take_all a (f n) (le_of_eq (each n (lt-suc_self n))))

      earlier : k < n → take a (drop (a * k) (in_order f n)) ≡ f k → take a (drop (a * k) (in_order f n ++ f n)) ≡ f k
      earlier l there = front_stretch (in_order f n) (f n) (a * k) a (omega (arith, size, mul-suc a k, mul-le-mul_left a l)) ∙ there

pub in_order_bytes : (f : ℕ → List ℕ) (n : ℕ) → ((k : ℕ) → k < n → Bytes (f k)) → Bytes (in_order f n)
unfolding in_order Bytes
in_order_bytes f zero each = λ i. omega arith
in_order_bytes f (suc n) each = bytes_append (in_order f n) (f n) (in_order_bytes f n (λ k h. each k (le_step h))) (each n (lt-suc_self n))

-- the stretches of length a from index o on, one behind the other, are one
pub in_order_stretches : (s : List ℕ) (o a n : ℕ) → in_order (λ k. take a (drop (o + a * k) s)) n ≡ take (a * n) (drop o s)
unfolding in_order
in_order_stretches s o a zero = rw (mul-zero a) refl
in_order_stretches s o a (suc n) =
    rw (in_order_stretches s o a n, ← drop-drop (a * n) o s, ← take-add (a * n) a (drop o s), mul-suc a n) refl

-- ---- one loop for several

in_order_append : (f : ℕ → List ℕ) (a b : ℕ) → in_order f (a + b) ≡ in_order f a ++ in_order (λ k. f (a + k)) b
unfolding in_order
in_order_append f a zero = rw (add-zero a) (sym (append-nil (in_order f a)))
in_order_append f a (suc b) = rw (add-suc a b, in_order_append f a b) (append_assoc (in_order f a) _ _)

-- n rows of m each
pub in_order_rows : (f : ℕ → List ℕ) (m n : ℕ) → in_order f (n * m) ≡ in_order (λ j. in_order (λ i. f (j * m + i)) m) n
unfolding in_order
in_order_rows f m zero = rw (zero-mul m) refl
in_order_rows f m (suc n) = rw (suc-mul n m, in_order_append f (n * m) m, in_order_rows f m n) refl
