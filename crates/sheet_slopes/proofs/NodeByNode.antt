-- Filling in place, node by node, leaves the sheet put together with its slopes: up to each node's first byte it is that one already. Assumes nothing.
use Prim.Native.Nat.{ℕ, zero, suc, ◌+◌, ◌≤◌, ◌<◌}
use mathlib.Core.Path.{◌≡◌, refl, sym, ◌∙◌, ap}
use mathlib.Core.List.{List, ◌++◌, append_assoc, append-nil}
use native.Mathlib.Nat.{suc-mul, mul_comm, le_refl, le_of_eq}
use native.Mathlib.Omega.{arith}
use lib.ListN.{length, take, drop, length-append, take-append-drop, drop_of_length-le}
use lib.Seq.{length-take-le, take_all, take_at, take-add, drop-drop}
use Rattle.sheet_words.specs.Word.{replaced}
use Rattle.sheet_words.proofs.Replaced.{stretch_length}
use Rattle.sheet_layout.specs.Format.{columns, rows, height_size, node_size, nodes_offset, node_offset}
use Rattle.sheet_layout.proofs.SameFront.{same_columns_lem, same_rows_lem, same_offset}
use Rattle.sheet_assembly.specs.Assembled.{assembled, Whole}
use Rattle.sheet_assembly.proofs.Stretches.{take_past, drop_past}
use Rattle.sheet_assembly.proofs.Assembled.{assembly_laws, assembled_front}
use Rattle.sheet_slopes.specs.Slopes.{filled_x, filled_y, filled_bytes, SameHeights}
use Rattle.sheet_slopes.specs.InPlace.{Fillable, node_filled, row_filled, rows_filled}
use Rattle.sheet_slopes.proofs.Same.{heights_front, same_then, same_fillable, same_filled_x, same_filled_y}
use Rattle.sheet_slopes.proofs.InPlace.{slopes_size_lem, fits, row_same, rows_same}

-- ---- lists: r up to byte k, and s from there on

abbrev up_to : ℕ → List ℕ → List ℕ → List ℕ
up_to k r s = take k r ++ drop k s

-- six bytes further, of which r has two from s, then b
six_further : (r s : List ℕ) (k : ℕ) (b : List ℕ) → k ≤ length r → length b ≡ 4 → take node_size (drop k r) ≡ take height_size (drop k s) ++ b
    → replaced (up_to k r s) (k + height_size) b ≡ up_to (k + node_size) r s
six_further r s k b h four e =
    (λ i. front i ++ b ++ rest i)
    ∙ ap (λ a. a ++ drop (k + node_size) s) (append_assoc p (take height_size q) b ∙ ap (λ a. p ++ a) (sym e) ∙ sym (take-add k node_size r))
  where
    p : List ℕ
    p = take k r

    q : List ℕ
    q = drop k s

    front : take (k + height_size) (p ++ q) ≡ p ++ take height_size q
    front = take_past p q k height_size (length-take-le k r h)

    rest : drop (k + height_size + length b) (p ++ q) ≡ drop (k + node_size) s
    rest =
        let place : k + height_size + length b ≡ k + node_size = omega arith in
        ap (λ n. drop n (p ++ q)) place ∙ drop_past p q k node_size (length-take-le k r h) ∙ drop-drop node_size k s

-- ---- the sheet put together with its slopes

abbrev pub full : List ℕ → ℕ → List ℕ
full s t = assembled s (filled_bytes s t)

module _ {s : List ℕ} {t : ℕ} (f : Fillable s t) where
  bytes_size : (i j : ℕ) → i < columns s → j < rows s → length (filled_bytes s t i j) ≡ node_size
  unfolding filled_bytes
  bytes_size i j h k =
      let o = node_offset s i j in
      let height = stretch_length s o height_size (omega (arith, fits f i j h k)) in
      length-append (take height_size (drop o s)) _ ∙ rw (height, slopes_size_lem (filled_x s t i j) (filled_y s t i j)) refl

  pub filled_whole : Whole s (filled_bytes s t)
  filled_whole = record { lines = omega (arith, f.whole); nodes = bytes_size }

  full_size : length (full s t) ≡ length s
  full_size = assembly_laws.size s _ filled_whole ∙ sym f.whole

  full_lines : take (nodes_offset s) (full s t) ≡ take (nodes_offset s) s
  unfolding assembled
  full_lines = take_at (take (nodes_offset s) s) _ (nodes_offset s) (length-take-le (nodes_offset s) s filled_whole.lines)

  full_node : (i j : ℕ) → i < columns s → j < rows s → take node_size (drop (node_offset s i j) (full s t)) ≡ filled_bytes s t i j
  full_node i j h k =
      ap (λ at. take node_size (drop at (full s t))) (sym (same_offset (assembled_front filled_whole) i j)) ∙ assembly_laws.nodes s _ filled_whole i j h k

  -- ---- filled up to a node, a row, the end

  abbrev At : List ℕ → ℕ → ℕ → Type 0
  At r i j = r ≡ up_to (node_offset s i j) (full s t) s

  node_done : {r : List ℕ} → SameHeights s r → (i j : ℕ) → i < columns s → j < rows s → At r i j → At (node_filled r t i j) (suc i) j
  unfolding node_filled filled_bytes
  node_done same i j h k e =
      let o = node_offset s i j in
      let next : o + node_size ≡ node_offset s (suc i) j = omega arith in
      rw (same_offset (heights_front same) i j, same_filled_x same t i j h k, same_filled_y same t i j h k, e)
      (six_further (full s t) s o _ (omega (arith, full_size, fits f i j h k)) (slopes_size_lem (filled_x s t i j) (filled_y s t i j)) (full_node i j h k))
      ∙ ap (λ n. up_to n (full s t) s) next

  row_done : {r : List ℕ} → SameHeights s r → (j : ℕ) → j < rows s → At r 0 j → (k : ℕ) → k ≤ columns s → At (row_filled r t j k) k j
  unfolding row_filled
  row_done same j l e zero h = e
  row_done same j l e (suc k) h =
      let front = heights_front same in
      let begun = row_same (same_fillable same f) j (rw (same_rows_lem front) l) k (rw (same_columns_lem front) (omega arith)) in
      node_done (same_then same begun) k j h l (row_done same j l e k (omega arith))

  start : At s 0 0
  start =
      let first : node_offset s 0 0 ≡ nodes_offset s = omega arith in
      rw (first, full_lines) (sym (take-append-drop (nodes_offset s) s))

  rows_done : (k : ℕ) → k ≤ rows s → At (rows_filled s t k) 0 k
  unfolding rows_filled
  rows_done zero h = start
  rows_done (suc k) h =
      let next : node_offset s (columns s) k ≡ node_offset s 0 (suc k) = omega (arith, suc-mul k (columns s)) in
      row_done (rows_same f k (omega arith)) k h (rows_done k (omega arith)) (columns s) (le_refl (columns s)) ∙ ap (λ n. up_to n (full s t) s) next

  pub in_place_lem : rows_filled s t (rows s) ≡ full s t
  in_place_lem =
      let end : length s ≡ node_offset s 0 (rows s) = omega (arith, f.whole, mul_comm (rows s) (columns s)) in
      rows_done (rows s) (le_refl (rows s))
      ∙ rw (← end, take_all (length s) (full s t) (le_of_eq full_size), drop_of_length-le s (le_refl (length s))) (append-nil (full s t))
