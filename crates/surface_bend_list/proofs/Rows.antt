-- The list of bends by rows of cells: which cells touch the pixel, and that the others add nothing. Assumes nothing.
use Prim.Native.Nat.{ℕ, zero, suc, ◌-◌, ◌≤◌, ◌<◌}
use mathlib.Core.Path.{◌≡◌, refl, sym, ◌∙◌, ap}
use mathlib.Core.List.{List, [], flat_map}
use native.Mathlib.Omega.{arith}
use Rattle.sheet_layout.specs.Format.{columns, rows, line_x, line_y}
use Rattle.sheet_calls.specs.Refusals.{Accepted}
use Rattle.sheet_calls.specs.WellFormed.{Inside}
use Rattle.surface_of_sheet.specs.Place.{columns_at, rows_at}
use Rattle.surface_of_sheet.proofs.CellsAlong.{cell_laws}
use Rattle.surface_of_sheet.proofs.Cells.{x_rising, y_rising}
use Rattle.surface_places.specs.Found.{CellTouches}
use Rattle.surface_bends.specs.Bends.{in_turn, touching_in, touching_places, bends_at, bends}
use Rattle.surface_bends.proofs.InTurn.{flat_map_append, same_in_turn}
use Rattle.surface_bends.proofs.Touched.{columns_there, rows_there, none_left, none_right, none_above, none_below}
use Rattle.surface_bend_list.specs.Rows.{bends_in, bends_in_row}

-- a list for each element of lists in turn
flat_map_in_turn : {A B : Type 0} (f : A → List B) (n : ℕ) (g : ℕ → List A) → flat_map f (in_turn n g) ≡ in_turn n (λ i. flat_map f (g i))
unfolding in_turn flat_map
flat_map_in_turn f zero g = refl
flat_map_in_turn f (suc n) g = rw (flat_map_append f (in_turn n g) (g n), flat_map_in_turn f n g) refl

module _ (s : List ℕ) (x y : ℕ) where
  row_is : (j : ℕ) → flat_map (bends_at s) (in_turn (columns s - 1) (λ i. touching_in s x y j i)) ≡ bends_in_row s x y j
  unfolding bends_in_row bends_in
  row_is j = flat_map_in_turn (bends_at s) (columns s - 1) (touching_in s x y j)

  -- all rows
  pub rows_are : in_turn (rows s - 1) (bends_in_row s x y) ≡ bends s x y
  unfolding bends touching_places
  rows_are = sym (flat_map_in_turn (bends_at s) (rows s - 1) _ ∙ same_in_turn _ _ _ (λ j _. row_is j))

  module _ (accepted : Accepted s) (inside : Inside s x y) where
    -- from the lowest to the highest, the cells touch the pixel
    pub column_at_lem : (i : ℕ) → (columns_at s x).lowest ≤ i → i ≤ (columns_at s x).highest → CellTouches (line_x s) (columns s) i x
    column_at_lem i l h =
        let has = columns_there s accepted x y inside in
        let at = (cell_laws.between (line_x s) (columns s) x i (x_rising s accepted) inside.left inside.right (omega arith)).1 (l, h) in
        record { has = omega arith; starts = at.0; ends = at.1 }

    pub row_at : (j : ℕ) → (rows_at s y).lowest ≤ j → j ≤ (rows_at s y).highest → CellTouches (line_y s) (rows s) j y
    row_at j l h =
        let has = rows_there s accepted x y inside in
        let at = (cell_laws.between (line_y s) (rows s) y j (y_rising s accepted) inside.top inside.bottom (omega arith)).1 (l, h) in
        record { has = omega arith; starts = at.0; ends = at.1 }

    -- the others add nothing
    pub before_column : (j i : ℕ) → i < (columns_at s x).lowest → bends_in s x y j i ≡ []
    unfolding bends_in flat_map
    before_column j i h = ap (flat_map (bends_at s)) (none_left s accepted x y inside j i h)

    pub behind_column : (j i : ℕ) → (columns_at s x).highest < i → bends_in s x y j i ≡ []
    unfolding bends_in flat_map
    behind_column j i h = ap (flat_map (bends_at s)) (none_right s accepted x y inside j i h)

    pub before_row : (j : ℕ) → j < (rows_at s y).lowest → bends_in_row s x y j ≡ []
    unfolding flat_map
    before_row j h = sym (row_is j) ∙ ap (flat_map (bends_at s)) (none_above s accepted x y inside _ j h)

    pub behind_row : (j : ℕ) → (rows_at s y).highest < j → bends_in_row s x y j ≡ []
    unfolding flat_map
    behind_row j h = sym (row_is j) ∙ ap (flat_map (bends_at s)) (none_below s accepted x y inside _ j h)
