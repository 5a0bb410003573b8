-- Sheets on the same lines have the same cells, and a pixel the same place. Assumes nothing.
use Prim.Native.Nat.{ℕ, zero, suc, ◌-◌, ◌≤◌}
use mathlib.Core.Path.{◌≡◌, refl}
use mathlib.Core.List.{List}
use native.Mathlib.Nat.{le_refl, le_step}
use native.Mathlib.Omega.{arith}
use Rattle.sheet_layout.specs.Format.{columns, rows, line_x, line_y}
use Rattle.sheet_layout.specs.SameLines.{SameLines}
use Rattle.sheet_layout.proofs.SameLines.{same_sym}
use Rattle.sheet_calls.specs.Refusals.{Accepted}
use Rattle.sheet_calls.specs.WellFormed.{Inside, WellFormed}
use Rattle.sheet_calls.specs.OnSameLines.{OnSameLines}
use Rattle.surface_of_sheet.specs.Place.{cell_of, HasCell, highest_along, column_at, row_at, place}
use Rattle.surface_of_sheet.specs.SameCells.{SameCells, MeshLaws}
use Rattle.surface_of_sheet.proofs.Cells.{sound}
use Rattle.surface_of_sheet.proofs.Places.{has_cell}

same_highest : (line line' : ℕ → ℕ) (k position : ℕ) → ((i : ℕ) → i ≤ k → line' i ≡ line i) → highest_along line' k position ≡ highest_along line k position
unfolding highest_along
same_highest line line' zero position same = refl
same_highest line line' (suc k) position same =
    rw (same (suc k) (le_refl (suc k)), same_highest line line' k position (λ i h. same i (le_step h))) refl

module _ {a b : List ℕ} (accepted : Accepted a) (lines : SameLines a b) where
  abbrev well : WellFormed a
  well = sound a accepted

  same_column : (x : ℕ) → column_at b x ≡ column_at a x
  unfolding column_at
  same_column x = rw lines.same_columns (same_highest (line_x a) (line_x b) (columns a - 2) x (λ i h. lines.same_x i (omega (arith, h, well.few_columns))))

  same_row : (y : ℕ) → row_at b y ≡ row_at a y
  unfolding row_at
  same_row y = rw lines.same_rows (same_highest (line_y a) (line_y b) (rows a - 2) y (λ j h. lines.same_y j (omega (arith, h, well.few_rows))))

  same_cell : (i j : ℕ) → HasCell a i j → cell_of b i j ≡ cell_of a i j
  unfolding cell_of
  same_cell i j h =
      rw (lines.same_x (suc i) h.column, lines.same_x i (omega (arith, h.column)), lines.same_y (suc j) h.row, lines.same_y j (omega (arith, h.row))) refl

  same_place : (x y : ℕ) → place b x y ≡ place a x y
  unfolding place
  same_place x y =
      let h = has_cell a accepted x y in
      rw (
        same_column x,
        same_row y,
        lines.same_x (column_at a x) (omega (arith, h.column)),
        lines.same_y (row_at a y) (omega (arith, h.row)),
        same_cell (column_at a x) (row_at a y) h,
      ) refl

  same_inside : (x y : ℕ) → Inside a x y → Inside b x y
  same_inside x y h = record {
    left = rw (lines.same_x 0 (omega (arith, well.few_columns))) h.left;
    right = rw (lines.same_columns, lines.same_x (columns a - 1) (omega (arith, well.few_columns))) h.right;
    top = rw (lines.same_y 0 (omega (arith, well.few_rows))) h.top;
    bottom = rw (lines.same_rows, lines.same_y (rows a - 1) (omega (arith, well.few_rows))) h.bottom;
  }

  same_has : (i j : ℕ) → HasCell a i j → HasCell b i j
  same_has i j h = record { column = rw lines.same_columns h.column; row = rw lines.same_rows h.row }

pub same_cells : {a b : List ℕ} → OnSameLines a b → SameCells a b
same_cells p = let back = same_sym p.lines in record {
  has = λ i j. (same_has p.second_accepted back i j, same_has p.first_accepted p.lines i j);
  cells = same_cell p.first_accepted p.lines;
  inside = λ x y. (same_inside p.second_accepted back x y, same_inside p.first_accepted p.lines x y);
  places = same_place p.first_accepted p.lines;
}

pub mesh_laws : MeshLaws
mesh_laws = record { same = λ a b. same_cells }
