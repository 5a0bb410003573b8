-- Lists of bytes, and numbers of 16 bits in them. Assumes nothing.
use Prim.Native.Nat.{ℕ, zero, suc, ◌-◌, ◌+◌, ◌/◌, ◌%◌, ◌≤◌, ◌<◌}
use mathlib.Core.Path.{◌≡◌, refl}
use mathlib.Core.List.{List, [], ◌∷◌, ◌++◌}
use native.Mathlib.Decide.{dec_lt}
use native.Mathlib.Numerals.{add-one}
use native.Mathlib.Omega.{arith}
use lib.ListN.{length, take, drop, get_or-append}
use lib.Seq.{drop-cons, get_or-append-add}
use Rattle.sheet_words.specs.Word.{byte_at, word_at, bytes_of, Bytes}

-- the bytes that the library gives of a number of 16 bits
pub two_bytes : (w : ℕ) → w < 65536 → w % 256 ∷ w / 256 % 256 ∷ [] ≡ bytes_of w
unfolding bytes_of
two_bytes w h = let high : w / 256 % 256 ≡ w / 256 = omega (arith, h) in λ t. (w % 256) ∷ high t ∷ []

pub word_bytes_lem : (w : ℕ) → word_at (bytes_of w) 0 ≡ w
unfolding bytes_of
word_bytes_lem w = omega arith

pub bytes_word_lem : (s : List ℕ) (i : ℕ) → Bytes s → i + 2 ≤ length s → bytes_of (word_at s i) ≡ take 2 (drop i s)
unfolding bytes_of Bytes
bytes_word_lem s i b h =
    let low : word_at s i % 256 ≡ byte_at s i = omega (arith, b i) in
    let high : word_at s i / 256 ≡ byte_at s (i + 1) = omega (arith, b i) in
    rw (low, high, drop-cons s i 0 (omega (arith, h)), drop-cons s (suc i) 0 (omega (arith, h)), add-one i) refl

-- ---- lists of bytes

pub bytes_append : (a b : List ℕ) → Bytes a → Bytes b → Bytes (a ++ b)
unfolding Bytes
bytes_append a b h k i =
    elim (dec_lt i (length a)) [
      | yes l ↦ rw (get_or-append a b 0 i l) (h i)
      | no l ↦ let e : length a + (i - length a) ≡ i = omega arith in rw (← e, get_or-append-add a b (i - length a) 0) (k (i - length a))
    ]

pub bytes_of_lem : (w : ℕ) → w < 65536 → Bytes (bytes_of w)
unfolding Bytes bytes_of
bytes_of_lem w h zero = omega arith
bytes_of_lem w h (suc zero) = omega (arith, h)
bytes_of_lem w h (suc (suc i)) = omega arith
