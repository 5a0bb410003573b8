-- Two sheets, s and r, with the same bytes before the nodes and the same heights: what filling makes of them is the same. Assumes nothing.
use Prim.Native.Nat.{ℕ, ◌<◌}
use mathlib.Core.Path.{◌≡◌, refl, sym, ◌∙◌}
use mathlib.Core.List.{List}
use native.Mathlib.Omega.{arith}
use lib.IntN.{ℤ}
use Rattle.sheet_layout.specs.Format.{columns, rows, node_at, height_at}
use Rattle.sheet_layout.proofs.Gathered.{some_cong}
use Rattle.sheet_layout.proofs.SameFront.{SameFront, same_columns_lem, same_rows_lem, same_line_x, same_line_y, same_offset}
use Rattle.sheet_calls.proofs.Conditions.{condition_laws}
use Rattle.sheet_calls.proofs.StaysWellFormed.{same_rising}
use Rattle.sheet_layout.specs.Neighbours.{previous}
use Rattle.sheet_layout.proofs.NeighbourLaws.{previous-≤, next-<}
use Rattle.sheet_slopes.specs.Slopes.{rise, distance, slope_along, filled_x, filled_y, too_steep, some_too_steep, SameHeights}
use Rattle.sheet_slopes.specs.InPlace.{Fillable}

-- ---- on an axis

along_same : (t n : ℕ) (line line' : ℕ → ℕ) (height height' : ℕ → ℤ) → ((k : ℕ) → k < n → line' k ≡ line k) → ((k : ℕ) → k < n → height' k ≡ height k)
    → (k : ℕ) → k < n → slope_along t n line' height' k ≡ slope_along t n line height k
unfolding slope_along rise distance
along_same t n line line' height height' lines heights k h =
    let before : previous k < n = omega (arith, previous-≤ k) in
    let after = next-< n k h in
    rw (lines _ after, lines _ before, heights _ after, heights _ before) refl

-- ---- of sheets

pub same_self : (s : List ℕ) → SameHeights s s
same_self s = record { size = refl; front = λ k h. refl; heights = λ i j h k. (refl, refl) }

module _ {s r : List ℕ} (same : SameHeights s r) where
  pub heights_front : SameFront s r
  heights_front = record { bytes = same.front }

  same_stored : (i j : ℕ) → i < columns s → j < rows s → (node_at r i j).stored_height ≡ (node_at s i j).stored_height
  same_stored i j h k =
      let (low, high) = same.heights i j h k in
      (condition_laws.node_numbers r i j _ refl).0
      ∙ rw (same_offset heights_front i j, low, high) (sym (condition_laws.node_numbers s i j _ refl).0)

  same_height : (i j : ℕ) → i < columns s → j < rows s → height_at r i j ≡ height_at s i j
  unfolding height_at
  same_height i j h k = rw (same_stored i j h k) refl

  pub same_filled_x : (t i j : ℕ) → i < columns s → j < rows s → filled_x r t i j ≡ filled_x s t i j
  unfolding filled_x
  same_filled_x t i j h k =
      rw (same_columns_lem heights_front) (along_same t _ _ _ _ _ (same_line_x heights_front) (λ i h. same_height i j h k) i h)

  pub same_filled_y : (t i j : ℕ) → i < columns s → j < rows s → filled_y r t i j ≡ filled_y s t i j
  unfolding filled_y
  same_filled_y t i j h k =
      rw (same_rows_lem heights_front) (along_same t _ _ _ _ _ (same_line_y heights_front) (λ j k. same_height i j h k) j k)

  pub same_steep : (t : ℕ) → some_too_steep r t ≡ some_too_steep s t
  unfolding some_too_steep too_steep
  same_steep t =
      rw (same_columns_lem heights_front, same_rows_lem heights_front)
      (some_cong _ _ (rows s) (λ j k. some_cong _ _ (columns s) (λ i h. rw (same_filled_x t i j h k, same_filled_y t i j h k) refl)))

  pub same_fillable : {t : ℕ} → Fillable s t → Fillable r t
  same_fillable {t} f =
      record {
        whole = rw (same_columns_lem heights_front, same_rows_lem heights_front) (same.size ∙ f.whole);
        few_columns = rw (same_columns_lem heights_front) f.few_columns;
        few_rows = rw (same_rows_lem heights_front) f.few_rows;
        rising_x = rw (same_columns_lem heights_front) (same_rising _ _ _ (same_line_x heights_front) f.rising_x);
        rising_y = rw (same_rows_lem heights_front) (same_rising _ _ _ (same_line_y heights_front) f.rising_y);
        stiffness = f.stiffness;
        slopes_x = rw (same_columns_lem heights_front, same_rows_lem heights_front) (λ i j h k. rw (same_filled_x t i j h k) (f.slopes_x i j h k));
        slopes_y = rw (same_columns_lem heights_front, same_rows_lem heights_front) (λ i j h k. rw (same_filled_y t i j h k) (f.slopes_y i j h k));
      }

  -- then a third
  pub same_then : {u : List ℕ} → SameHeights r u → SameHeights s u
  same_then other =
      record {
        size = other.size ∙ same.size;
        front = λ k h. other.front k (rw (same_columns_lem heights_front, same_rows_lem heights_front) h) ∙ same.front k h;
        heights = λ i j h k.
            let first = same.heights i j h k in
            let then = other.heights i j (rw (same_columns_lem heights_front) h) (rw (same_rows_lem heights_front) k) in
            let there = rw (same_offset heights_front i j) at then in
            (there.0 ∙ first.0, there.1 ∙ first.1);
      }
