-- A list in which a stretch of bytes, b from index i on, has been replaced. Assumes nothing.
use Prim.Native.Nat.{ℕ, ◌+◌, ◌*◌, ◌-◌, ◌≤◌, ◌<◌}
use mathlib.Core.Path.{◌≡◌, refl, sym, ◌∙◌, ap}
use mathlib.Core.List.{List, ◌++◌, append_assoc}
use native.Mathlib.Nat.{add_assoc}
use native.Mathlib.Decide.{dec_lt}
use native.Mathlib.Omega.{arith}
use lib.ListN.{length, take, drop, length-append, length-take, length-drop, take-append-drop, get_or-eq_default}
use lib.Seq.{length-take-le, take_at, drop_at, get_or-take, get_or-drop, drop-drop, take-add}
use borrow.Rule.Slice.PartMut.{put_mid}
use Rattle.std.proofs.lemmas.Slice.{put_mid-paste}
use Rattle.std.proofs.lemmas.List.Edits.{paste_all}
use Rattle.sheet_words.specs.Word.{byte_at, word_at, replaced, Bytes}
use Rattle.sheet_words.proofs.Bytes.{bytes_append}

-- ---- a stretch of a list: its length and its bytes

pub stretch_length : (s : List ℕ) (i n : ℕ) → i + n ≤ length s → length (take n (drop i s)) ≡ n
stretch_length s i n h = length-take-le n (drop i s) (omega (arith, length-drop i s))

pub stretch_byte : (s : List ℕ) (i n k : ℕ) → k < n → byte_at (take n (drop i s)) k ≡ byte_at s (i + k)
stretch_byte s i n k h = get_or-take n (drop i s) k 0 h ∙ get_or-drop i s k 0

pub stretch_word : (s : List ℕ) (i n k : ℕ) → k + 1 < n → word_at (take n (drop i s)) k ≡ word_at s (i + k)
stretch_word s i n k h =
    let low = stretch_byte s i n k (omega (arith, h)) in
    let high = stretch_byte s i n (k + 1) h ∙ ap (byte_at s) (sym (add_assoc i k 1)) in
    λ t. low t + high t * 256

pub stretch_bytes : (s : List ℕ) (i n : ℕ) → Bytes s → Bytes (take n (drop i s))
unfolding Bytes
stretch_bytes s i n bytes k =
    elim (dec_lt k n) [
      | yes l ↦ rw (stretch_byte s i n k l) (bytes (i + k))
      | no l ↦ rw (get_or-eq_default (take n (drop i s)) 0 {n = k} (omega (arith, length-take n (drop i s)))) (omega arith)
    ]

rest_bytes : (s : List ℕ) (n : ℕ) → Bytes s → Bytes (drop n s)
unfolding Bytes
rest_bytes s n h k = rw (get_or-drop n s k 0) (h (n + k))

byte_behind : (s : List ℕ) (n k : ℕ) → n ≤ k → byte_at (drop n s) (k - n) ≡ byte_at s k
byte_behind s n k h = get_or-drop n s (k - n) 0 ∙ ap (byte_at s) (omega arith)

-- ---- a stretch replaced

pub replaced_bytes : (s : List ℕ) (i : ℕ) (b : List ℕ) → Bytes s → Bytes b → Bytes (replaced s i b)
replaced_bytes s i b h k = bytes_append (take i s ++ b) _ (bytes_append (take i s) b (stretch_bytes s 0 i h) k) (rest_bytes s (i + length b) h)

-- what a write to the part of k bytes from index i on leaves
pub put_replaced : (s : List ℕ) (i k : ℕ) {a b : List ℕ} → a ≡ b → length b ≡ k → put_mid i k s a ≡ replaced s i b
put_replaced s i k {a} {b} e h =
    put_mid-paste i k s a b (length b) e h refl ∙ paste_all s i b (length b) refl ∙ sym (append_assoc (take i s) b (drop (i + length b) s))

-- what is there changes nothing
pub replaced_same : (s : List ℕ) (i n : ℕ) → i + n ≤ length s → replaced s i (take n (drop i s)) ≡ s
replaced_same s i n h = rw (stretch_length s i n h, ← take-add i n s) (take-append-drop (i + n) s)

module _ (s : List ℕ) (i : ℕ) (b : List ℕ) (fits : i + length b ≤ length s) where
  before_length : length (take i s) ≡ i
  before_length = length-take-le i s (omega arith)

  front_length : length (take i s ++ b) ≡ i + length b
  front_length = length-append (take i s) b ∙ rw before_length refl

  pub replaced_length : length (replaced s i b) ≡ length s
  replaced_length = length-append (take i s ++ b) _ ∙ omega (arith, front_length, length-drop (i + length b) s)

  -- what stands before, in and after the stretch
  replaced_take : take i (replaced s i b) ≡ take i s
  replaced_take = rw (append_assoc (take i s) b (drop (i + length b) s)) (take_at (take i s) _ i before_length)

  pub replaced_stretch : take (length b) (drop i (replaced s i b)) ≡ b
  replaced_stretch =
      rw (append_assoc (take i s) b (drop (i + length b) s), drop_at (take i s) (b ++ drop (i + length b) s) i before_length) (take_at b _ (length b) refl)

  replaced_drop : drop (i + length b) (replaced s i b) ≡ drop (i + length b) s
  replaced_drop = drop_at (take i s ++ b) _ (i + length b) front_length

  -- the same by bytes
  pub replaced_before : (k : ℕ) → k < i → byte_at (replaced s i b) k ≡ byte_at s k
  replaced_before k h = sym (get_or-take i (replaced s i b) k 0 h) ∙ rw replaced_take (get_or-take i s k 0 h)

  pub replaced_after : (k : ℕ) → i + length b ≤ k → byte_at (replaced s i b) k ≡ byte_at s k
  replaced_after k h = sym (byte_behind (replaced s i b) (i + length b) k h) ∙ rw replaced_drop (byte_behind s (i + length b) k h)

  -- then a second stretch over it, and one behind it
  pub replaced_again : (c : List ℕ) → length c ≡ length b → replaced (replaced s i b) i c ≡ replaced s i c
  replaced_again c e = rw (e, replaced_take, replaced_drop) refl

  replaced_rest : (n : ℕ) → drop (i + length b + n) (replaced s i b) ≡ drop (i + length b + n) s
  replaced_rest n = sym (drop-drop n _ (replaced s i b)) ∙ ap (drop n) replaced_drop ∙ drop-drop n _ s

  pub replaced_on : (c : List ℕ) → replaced (replaced s i b) (i + length b) c ≡ replaced s i (b ++ c)
  replaced_on c =
      rw (
        take_at (take i s ++ b) (drop (i + length b) s) (i + length b) front_length,
        replaced_rest (length c),
        length-append b c,
        ← append_assoc (take i s) b c,
        ← add_assoc i (length b) (length c),
      ) refl
