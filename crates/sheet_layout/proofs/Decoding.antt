-- A node's numbers, as the code reads them from the sheet. Assumes nothing.
use Prim.Native.Nat.{ℕ, ◌+◌, ◌<◌}
use mathlib.Core.Path.{◌≡◌, sym, ◌∙◌, ap}
use mathlib.Core.List.{List}
use native.Mathlib.Nat.{add-zero}
use lib.Dec.{lit<}
use lib.IntN.{ℤ, pos, ◌*ℤ◌}
use Rattle.sheet_words.specs.Word.{word_at, signed}
use Rattle.sheet_words.proofs.Replaced.{stretch_word}
use Rattle.sheet_layout.specs.Format.{Node, node, decoded, node_size, node_offset, node_bytes, node_at, height_at, slope_x_at, slope_y_at}

module _ (s : List ℕ) (i j : ℕ) where
  -- the number k bytes from the node's start
  abbrev pub number_at : ℕ → ℤ
  number_at k = signed (word_at s (node_offset s i j + k))

  read : (k : ℕ) → k + 1 < node_size → signed (word_at (node_bytes s i j) k) ≡ number_at k
  read k h = ap signed (stretch_word s (node_offset s i j) node_size k h)

  node_read : node_at s i j ≡ node (number_at 0) (number_at 2) (number_at 4)
  unfolding node_at decoded
  node_read = λ t. node (read 0 (lit< tt) t) (read 2 (lit< tt) t) (read 4 (lit< tt) t)

  pub height_read : height_at s i j ≡ pos 64 *ℤ number_at 0
  unfolding height_at
  height_read = ap (λ (v : Node). pos 64 *ℤ v.stored_height) node_read

  pub slopes_read : (slope_x_at s i j ≡ number_at 2) × (slope_y_at s i j ≡ number_at 4)
  unfolding slope_x_at slope_y_at
  slopes_read = (ap (λ (v : Node). v.slope_x) node_read, ap (λ (v : Node). v.slope_y) node_read)

  -- a number that the code reads from where the node starts for it
  pub number_is : (k : ℕ) {n : ℕ} {r : ℤ} → n ≡ node_offset s i j → r ≡ signed (word_at s (n + k)) → r ≡ number_at k
  number_is k e f = f ∙ ap (λ (m : ℕ). signed (word_at s (m + k))) e

  pub first_is : {n : ℕ} {r : ℤ} → n ≡ node_offset s i j → r ≡ signed (word_at s n) → r ≡ number_at 0
  first_is {n} e f = number_is 0 e (f ∙ ap (λ (m : ℕ). signed (word_at s m)) (sym (add-zero n)))
