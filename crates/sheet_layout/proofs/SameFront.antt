-- Two sheets, s and t, with the same bytes before the nodes: they have the same lines, and a node whose bytes are the same. Assumes nothing.
use Prim.Native.Nat.{ℕ, ◌+◌, ◌*◌, ◌<◌}
use mathlib.Core.Path.{◌≡◌, refl, sym, ◌∙◌}
use mathlib.Core.List.{List}
use native.Mathlib.Omega.{arith}
use Rattle.sheet_words.specs.Word.{byte_at, word_at}
use Rattle.sheet_layout.specs.Format.{columns, rows, x_lines_offset, y_lines_offset, line_x, line_y, nodes_offset, decoded, node_size, node_offset, node_at}
use Rattle.sheet_words.proofs.Replaced.{stretch_byte}

same_word : (a b : List ℕ) (n : ℕ) → ((k : ℕ) → k < n → byte_at a k ≡ byte_at b k) → (k : ℕ) → k + 1 < n → word_at a k ≡ word_at b k
same_word a b n same k h = rw (same k (omega arith), same (k + 1) h) refl

same_decoded : (a b : List ℕ) → ((k : ℕ) → k < node_size → byte_at a k ≡ byte_at b k) → decoded a ≡ decoded b
unfolding decoded
same_decoded a b same = let word = same_word a b node_size same in rw (word 0 (omega arith), word 2 (omega arith), word 4 (omega arith)) refl

pub record SameFront (s t : List ℕ) : Type 0 where
  pub bytes : (k : ℕ) → k < nodes_offset s → byte_at t k ≡ byte_at s k

module _ {s t : List ℕ} (same : SameFront s t) where
  pub same_columns_lem : columns t ≡ columns s
  same_columns_lem = same.bytes 5 (omega arith)

  pub same_rows_lem : rows t ≡ rows s
  same_rows_lem = same.bytes 6 (omega arith)

  pub front_word : (k : ℕ) → k + 1 < nodes_offset s → word_at t k ≡ word_at s k
  front_word = same_word t s (nodes_offset s) same.bytes

  pub same_line_x : (k : ℕ) → k < columns s → line_x t k ≡ line_x s k
  same_line_x k h = front_word (x_lines_offset + 2 * k) (omega arith)

  pub same_line_y : (k : ℕ) → k < rows s → line_y t k ≡ line_y s k
  same_line_y k h = rw same_columns_lem (front_word (y_lines_offset s + 2 * k) (omega arith))

  pub same_offset : (i j : ℕ) → node_offset t i j ≡ node_offset s i j
  same_offset i j = rw (same_columns_lem, same_rows_lem) refl

  pub same_node : (i j : ℕ) → ((k : ℕ) → k < node_size → byte_at t (node_offset s i j + k) ≡ byte_at s (node_offset s i j + k)) → node_at t i j ≡ node_at s i j
  unfolding node_at
  same_node i j bytes = rw (same_offset i j) (same_decoded _ _ (λ k h. stretch_byte t _ node_size k h ∙ bytes k h ∙ sym (stretch_byte s _ node_size k h)))
