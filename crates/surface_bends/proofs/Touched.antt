-- What a cell lists of the pieces that touch a pixel: nothing, unless it lies from the lowest to the highest of the pixel's columns and rows. Assumes nothing.
use Prim.Native.Nat.{ℕ, suc, ◌≤◌, ◌<◌}
use mathlib.Core.Path.{◌≡◌, refl}
use mathlib.Core.List.{List, [], flat_map}
use native.Mathlib.Omega.{arith}
use Rattle.integers.proofs.Order.{cond_ind}
use Rattle.element_sibson.specs.Piece.{Piece, top, right, bottom, left}
use Rattle.sheet_layout.specs.Format.{columns, rows, line_x, line_y}
use Rattle.sheet_calls.specs.Refusals.{Accepted}
use Rattle.sheet_calls.specs.WellFormed.{Inside}
use Rattle.surface_of_sheet.specs.Place.{seen, touches, columns_at, rows_at}
use Rattle.surface_of_sheet.specs.Touching.{Touches}
use Rattle.surface_of_sheet.proofs.Along.{axis_cell}
use Rattle.surface_of_sheet.proofs.CellsAlong.{cell_laws}
use Rattle.surface_of_sheet.proofs.Cells.{sound, x_rising, y_rising}
use Rattle.surface_of_sheet.proofs.Places.{touched}
use Rattle.surface_bends.specs.Bends.{in_turn, if_touching, touching_in}
use Rattle.surface_bends.proofs.InTurn.{none_in_turn}

module _ (s : List ℕ) (x y j i : ℕ) where
  -- a cell of which no piece touches the pixel
  none_in : ((k : Piece) → ¬ Touches s (seen s i j k x y) x y) → touching_in s x y j i ≡ []
  unfolding touching_in if_touching flat_map
  none_in untouched = rw (none top, none right, none bottom, none left) refl
    where
      none : (k : Piece) → if_touching s x y (seen s i j k x y) ≡ []
      none k = cond_ind (touches s (seen s i j k x y) x y) _ _ (λ l. l ≡ []) (λ t. absurd (untouched k (touched s (seen s i j k x y) x y t))) (λ _. refl)

module _ (s : List ℕ) (accepted : Accepted s) (x y : ℕ) (inside : Inside s x y) where
  -- the cell of a piece that touches the pixel lies between the lowest and the highest
  pub column_between : {i j : ℕ} {k : Piece} → Touches s (seen s i j k x y) x y → ((columns_at s x).lowest ≤ i) × (i ≤ (columns_at s x).highest)
  column_between {i} t = (cell_laws.between (line_x s) (columns s) x i (x_rising s accepted) inside.left inside.right t.has.column).0
      (omega (arith, t.across), t.to_right)

  pub row_between : {i j : ℕ} {k : Piece} → Touches s (seen s i j k x y) x y → ((rows_at s y).lowest ≤ j) × (j ≤ (rows_at s y).highest)
  row_between {j = j} t = (cell_laws.between (line_y s) (rows s) y j (y_rising s accepted) inside.top inside.bottom t.has.row).0
      (omega (arith, t.down), t.to_bottom)

  -- the highest is a cell of the sheet
  pub columns_there : suc (columns_at s x).highest < columns s
  columns_there = axis_cell (line_x s) (sound s accepted).few_columns x

  pub rows_there : suc (rows_at s y).highest < rows s
  rows_there = axis_cell (line_y s) (sound s accepted).few_rows y

  -- ---- cells in other columns list nothing

  pub none_left : (j i : ℕ) → i < (columns_at s x).lowest → touching_in s x y j i ≡ []
  none_left j i h = none_in s x y j i (λ k t. omega (arith, h, column_between t))

  pub none_right : (j i : ℕ) → (columns_at s x).highest < i → touching_in s x y j i ≡ []
  none_right j i h = none_in s x y j i (λ k t. omega (arith, h, column_between t))

  -- ---- nor do those in other rows

  pub none_above : (n j : ℕ) → j < (rows_at s y).lowest → in_turn n (touching_in s x y j) ≡ []
  none_above n j h = none_in_turn n _ (λ i _. none_in s x y j i (λ k t. omega (arith, h, row_between t)))

  pub none_below : (n j : ℕ) → (rows_at s y).highest < j → in_turn n (touching_in s x y j) ≡ []
  none_below n j h = none_in_turn n _ (λ i _. none_in s x y j i (λ k t. omega (arith, h, row_between t)))
