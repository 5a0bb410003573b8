-- The inner lines of an axis, two bytes each: they rise, and how many start at or before a position is the number of the highest cell that touches it.
-- Assumes nothing.
use Rattle.std.proofs.Common.{◌≡◌, ℕ, zero, suc, ◌+◌, ◌-◌, ◌*◌, ◌/◌, ◌≤◌, ◌<◌, List, [], length, get_or, take, drop, length-take, length-drop, true, false, leb, lit<, sym, ap, ◌∙◌, arith}
use Rattle.std.proofs.Math.Nat.{le_antisymm}
use Rattle.std.proofs.lemmas.Bool.{leb-true, leb-false}
use Rattle.std.proofs.lemmas.List.{get_or-take, get_or-drop}
use Rattle.std.proofs.lemmas.List.Sorted.{IsNonDecreasingBy-from_default}
use Rattle.std.proofs.lemmas.Grind.{get_or_after_one}
use Rattle.std.specs.List.Sorted.{IsNonDecreasingBy, IsPartitionPoint}
use Rattle.std.specs.Simd.{first_chunks}
use native.Mathlib.Decide.{dec_lt}
use Rattle.sheet_words.specs.Word.{byte_at, word_at}
use Rattle.sheet_layout.specs.Format.{line_from}
use Rattle.sheet_layout.specs.Axis.{start_of, lines_of, line_of}
use Rattle.sheet_layout.specs.declared.axis.Axis.{Axis}
use Rattle.sheet_calls.proofs.Rising.{rise}
use Rattle.surface_of_sheet.specs.Place.{highest_along}
use Rattle.surface_of_sheet.proofs.Along.{along_least, along_starts, along_last}
use Rattle.surface_places.specs.Found.{Mesh}
use Rattle.surface_places.proofs.Axes.{along, line_is_from}

-- the words of bytes, taken by twos
pair_word : (n k : ℕ) (b : List ℕ) → k < n → word_at (get_or (first_chunks 2 n b) k []) 0 ≡ word_at b (2 * k)
pair_word zero k b h = absurd (omega (arith, h))
pair_word (suc n) zero b h = λ t. get_or-take 2 b 0 0 (lit< tt) t + get_or-take 2 b 1 0 (lit< tt) t * 256
pair_word (suc n) (suc k) b h =
    let low : 2 + 2 * k ≡ 2 * suc k = omega arith in
    let high : 2 + (2 * k + 1) ≡ 2 * suc k + 1 = omega arith in
    pair_word n k (drop 2 b) (omega (arith, h)) ∙ (λ t. get_or-drop 2 b (2 * k) 0 t + get_or-drop 2 b (2 * k + 1) 0 t * 256)
    ∙ (λ t. byte_at b (low t) + byte_at b (high t) * 256)

-- the bytes from an index on
abbrev pub bytes_from : List ℕ → ℕ → List ℕ
bytes_from s start = take (length s - start) (drop start s)

byte_behind : (s : List ℕ) (start i : ℕ) → start + i < length s → byte_at (bytes_from s start) i ≡ byte_at s (start + i)
byte_behind s start i h = get_or-take (length s - start) (drop start s) i 0 (omega (arith, h)) ∙ get_or-drop start s i 0

word_behind : (s : List ℕ) (start i : ℕ) → start + i + 1 < length s → word_at (bytes_from s start) i ≡ word_at s (start + i)
word_behind s start i h =
    let next : start + (i + 1) ≡ start + i + 1 = omega arith in
    let low = byte_behind s start i (omega (arith, h)) in let high = byte_behind s start (i + 1) (omega (arith, h)) ∙ ap (byte_at s) next in
    λ t. low t + high t * 256

module _ {s : List ℕ} (m : Mesh s) (a : Axis) {start lines : ℕ} (at : start ≡ start_of a s) (many : lines ≡ lines_of a s)
    {words : List (List ℕ)} (front : words ≡ first_chunks 2 (length (bytes_from s start) / 2) (bytes_from s start)) (count : length words ≡ length (bytes_from s start) / 2) where
  -- all words from the first line on, but for the first and those from the last line on
  abbrev pub inner : List (List ℕ)
  inner = take (lines - 1 - 1) (drop 1 words)

  there : start + 2 * lines ≤ length s
  there = omega (arith, at, many, (along m a).there)

  enough : lines ≤ length (bytes_from s start) / 2
  enough = simp (length-take, length-drop) (omega (arith, there))

  inner_length : length inner ≡ lines_of a s - 2
  inner_length = simp (length-take, length-drop, count) (omega (arith, many, there))

  inner_line : (k : ℕ) → k < lines_of a s - 2 → word_at (get_or inner k []) 0 ≡ line_of a s (suc k)
  inner_line k h =
      let next : 1 + k ≡ suc k = omega arith in
      let cut = get_or-take (lines - 1 - 1) (drop 1 words) k [] (omega (arith, h, many)) ∙ get_or_after_one words k [] ∙ ap (λ i. get_or words i []) next in
      (λ t. word_at (cut t) 0) ∙ (λ t. word_at (get_or (front t) (suc k) []) 0) ∙ pair_word (length (bytes_from s start) / 2) (suc k) (bytes_from s start) (omega (arith, h, many, enough))
      ∙ word_behind s start (2 * suc k) (omega (arith, h, many, there)) ∙ ap (λ i. line_from s i (suc k)) at ∙ sym (line_is_from a s (suc k))

  pub inner_rises : IsNonDecreasingBy (λ w. word_at w 0) inner
  inner_rises = IsNonDecreasingBy-from_default (λ w. word_at w 0) inner [] (λ i j h l.
      let first : i < lines_of a s - 2 = omega (arith, h, l, inner_length) in let second : j < lines_of a s - 2 = omega (arith, l, inner_length) in
      rw (inner_line i first, inner_line j second) (rise (along m a).rising (suc i) (suc j) (omega arith) (omega arith)))

  -- as many as start at or before the position
  pub inner_count : (r position : ℕ) → r ≤ length inner → line_of a s 0 ≤ position
      → IsPartitionPoint (λ w. leb (word_at w 0) position ≡ true) (λ w. leb (word_at w 0) position ≡ false) inner r → r ≡ highest_along (line_of a s) (lines_of a s - 2) position
  inner_count r position l first point = le_antisymm (at_least r (omega arith)) at_most
    where
      at_least : (n : ℕ) → n ≤ r → n ≤ highest_along (line_of a s) (lines_of a s - 2) position
      at_least zero h = omega arith
      at_least (suc n) h =
          let below : n < lines_of a s - 2 = omega (arith, h, l, inner_length) in
          let before : word_at (get_or inner n []) 0 ≤ position = leb-true _ _ (point.0 n [] (omega arith) h) in
          along_last (line_of a s) position (lines_of a s - 2) (suc n) below (rw (← inner_line n below) before)

      at_most : highest_along (line_of a s) (lines_of a s - 2) position ≤ r
      at_most = let cell = highest_along (line_of a s) (lines_of a s - 2) position in elim (dec_lt r cell) [
        | yes late ↦ absurd (
            let back : suc (cell - 1) ≡ cell = omega arith in
            let below : cell - 1 < lines_of a s - 2 = omega (arith, along_least (line_of a s) position (lines_of a s - 2), late) in
            let behind : position < word_at (get_or inner (cell - 1) []) 0 = leb-false _ _ (point.1 (cell - 1) [] (omega arith) (omega (arith, inner_length, below))) in
            let far : position < line_of a s cell = rw (← back, ← inner_line (cell - 1) below) behind in
            omega (arith, far, along_starts (line_of a s) position (lines_of a s - 2) first)
            )
        | no early ↦ omega arith
      ]
