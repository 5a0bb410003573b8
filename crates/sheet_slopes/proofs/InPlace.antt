-- Each step of filling in place leaves the heights, so that the next can be made. Assumes nothing.
use Prim.Native.Nat.{ℕ, zero, suc, ◌+◌, ◌≤◌, ◌<◌}
use mathlib.Core.Path.{◌≡◌, refl, sym}
use mathlib.Core.Logic.Dec
use mathlib.Core.Logic.{⊎_elim}
use mathlib.Core.List.{List}
use native.Mathlib.Nat.{le_of_eq}
use native.Mathlib.Decide.{ℕ_discrete}
use native.Mathlib.Omega.{arith}
use lib.ListN.{length}
use lib.IntN.{ℤ}
use Rattle.sheet_words.specs.Word.{byte_at, bytes_of}
use Rattle.sheet_words.proofs.Replaced.{replaced_length, replaced_before, replaced_after}
use Rattle.sheet_layout.specs.Format.{columns, rows, slope_bytes, height_size, node_size, node_offset}
use Rattle.sheet_layout.proofs.Offsets.{node_fits, nodes_apart}
use Rattle.sheet_layout.proofs.SameFront.{same_columns_lem, same_rows_lem}
use Rattle.sheet_slopes.specs.Slopes.{filled_x, filled_y, SameHeights}
use Rattle.sheet_slopes.specs.InPlace.{Fillable, node_filled, row_filled, rows_filled}
use Rattle.sheet_slopes.proofs.Same.{same_self, heights_front, same_then, same_fillable}

pub slopes_size_lem : (p q : ℤ) → length (slope_bytes p q) ≡ 4
unfolding slope_bytes bytes_of
slopes_size_lem p q = refl

-- ---- a node

module _ {s : List ℕ} {t : ℕ} (f : Fillable s t) where
  pub fits : (i j : ℕ) → i < columns s → j < rows s → node_offset s i j + node_size ≤ length s
  fits = node_fits s (le_of_eq (sym f.whole))

  module _ (i j : ℕ) (h : i < columns s) (k : j < rows s) where
    slopes_fit : node_offset s i j + height_size + length (slope_bytes (filled_x s t i j) (filled_y s t i j)) ≤ length s
    slopes_fit = rw (slopes_size_lem (filled_x s t i j) (filled_y s t i j)) (omega (arith, fits i j h k))

    -- its height and the bytes before stay, and those behind it
    node_before : (n : ℕ) → n < node_offset s i j + height_size → byte_at (node_filled s t i j) n ≡ byte_at s n
    unfolding node_filled
    node_before n l = replaced_before s _ _ slopes_fit n l

    node_after : (n : ℕ) → node_offset s i j + node_size ≤ n → byte_at (node_filled s t i j) n ≡ byte_at s n
    unfolding node_filled
    node_after n l = replaced_after s _ _ slopes_fit n (rw (slopes_size_lem (filled_x s t i j) (filled_y s t i j)) (omega arith))

    height_stays : (i' j' n : ℕ) → i' < columns s → node_offset s i' j' ≤ n → n < node_offset s i' j' + height_size
        → byte_at (node_filled s t i j) n ≡ byte_at s n
    height_stays i' j' n h' low high =
        elim (Dec.and (ℕ_discrete i' i) (ℕ_discrete j' j)) [
          | yes e ↦ node_before n (rw (e.0, e.1) at high)
          | no other ↦ ⊎_elim (λ a. node_after n (omega arith)) (λ b. node_before n (omega arith)) (nodes_apart s i j i' j' h h' other)
        ]

    node_same : SameHeights s (node_filled s t i j)
    unfolding node_filled
    node_same = record {
      size = replaced_length s _ _ slopes_fit;
      front = λ n l. node_before n (omega arith);
      heights = λ i' j' h' k'. (height_stays i' j' _ h' (omega arith) (omega arith), height_stays i' j' _ h' (omega arith) (omega arith));
    }

-- ---- the first nodes of a row

pub row_same : {s : List ℕ} {t : ℕ} → Fillable s t → (j : ℕ) → j < rows s → (k : ℕ) → k ≤ columns s → SameHeights s (row_filled s t j k)
unfolding row_filled
row_same {s} f j l zero h = same_self s
row_same f j l (suc k) h =
    let before = row_same f j l k (omega arith) in
    let front = heights_front before in
    same_then before (node_same (same_fillable before f) k j (rw (same_columns_lem front) h) (rw (same_rows_lem front) l))

pub row_fillable : {s : List ℕ} {t : ℕ} → Fillable s t → (j : ℕ) → j < rows s → (k : ℕ) → k ≤ columns s → Fillable (row_filled s t j k) t
row_fillable f j l k h = same_fillable (row_same f j l k h) f

-- ---- the first rows

pub rows_same : {s : List ℕ} {t : ℕ} → Fillable s t → (k : ℕ) → k ≤ rows s → SameHeights s (rows_filled s t k)
unfolding rows_filled
rows_same {s} f zero h = same_self s
rows_same f (suc k) h =
    let before = rows_same f k (omega arith) in
    let front = heights_front before in
    same_then before (row_same (same_fillable before f) k (rw (same_rows_lem front) h) _ (le_of_eq (sym (same_columns_lem front))))

pub rows_fillable : {s : List ℕ} {t : ℕ} → Fillable s t → (k : ℕ) → k ≤ rows s → Fillable (rows_filled s t k) t
rows_fillable f k h = same_fillable (rows_same f k h) f

-- ---- the counts of lines

module _ {s : List ℕ} {t : ℕ} (f : Fillable s t) where
  pub row_columns : (j : ℕ) → j < rows s → (k : ℕ) → k ≤ columns s → columns (row_filled s t j k) ≡ columns s
  row_columns j l k h = same_columns_lem (heights_front (row_same f j l k h))

  pub row_rows : (j : ℕ) → j < rows s → (k : ℕ) → k ≤ columns s → rows (row_filled s t j k) ≡ rows s
  row_rows j l k h = same_rows_lem (heights_front (row_same f j l k h))

  pub rows_columns : (k : ℕ) → k ≤ rows s → columns (rows_filled s t k) ≡ columns s
  rows_columns k h = same_columns_lem (heights_front (rows_same f k h))

  pub rows_rows : (k : ℕ) → k ≤ rows s → rows (rows_filled s t k) ≡ rows s
  rows_rows k h = same_rows_lem (heights_front (rows_same f k h))
