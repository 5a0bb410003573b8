-- The cells of a pixel, and the place that it is read at, among all its places: level and tilt are the same from each, the bend is not. Assumes nothing.
use Rattle.std.specs.Prelude.{ℕ, suc, ◌+◌, ◌-◌, ◌≤◌, ◌<◌, ◌≡◌, ◌↔◌, List, T, pos}
use Rattle.element_sibson.specs.Fraction.{◌≈◌, ◌*ℚ◌, whole}
use Rattle.element_sibson.specs.Cubic.{◌≋◌}
use Rattle.element_sibson.specs.Piece.{number, triangle}
use Rattle.sheet_layout.specs.Format.{columns, rows, line_x, line_y}
use Rattle.sheet_calls.specs.Refusals.{Accepted}
use Rattle.sheet_calls.specs.WellFormed.{Rising, Inside}
use Rattle.surface_of_sheet.specs.Place.{HasCell, cells_along, Place, cell_at, point_at, place, touches}
use Rattle.surface_of_sheet.specs.Surface.{jet_at, level_at, tilt_x_at, tilt_y_at, bend_xx_at, level, tilt_x, tilt_y, bend_xx}

-- along an axis, whose n lines rise, the lowest and the highest cell that touch a position
pub record CellLaws : Type 0 where
  -- a cell has the position between its lines, or on one, exactly when it lies from the lowest to the highest
  pub between : (line : ℕ → ℕ) (n position i : ℕ) → Rising line n → line 0 ≤ position → position ≤ line (n - 1) → suc i < n →
      ((line i ≤ position) × (position ≤ line (suc i)))
      ↔ (((cells_along line (n - 2) position).lowest ≤ i) × (i ≤ (cells_along line (n - 2) position).highest))
  -- on an inner line they are the cell before it and the one behind; on the outermost the one that is there; elsewhere they are the same
  pub inner : (line : ℕ → ℕ) (n k : ℕ) → Rising line n → suc (suc k) < n → cells_along line (n - 2) (line (suc k)) ≡ record { lowest = k; highest = suc k }
  pub first : (line : ℕ → ℕ) (n : ℕ) → Rising line n → 2 ≤ n → cells_along line (n - 2) (line 0) ≡ record { lowest = 0; highest = 0 }
  pub last : (line : ℕ → ℕ) (n : ℕ) → Rising line n → 2 ≤ n → cells_along line (n - 2) (line (n - 1)) ≡ record { lowest = n - 2; highest = n - 2 }
  pub elsewhere : (line : ℕ → ℕ) (n position : ℕ) → Rising line n → 2 ≤ n → ((k : ℕ) → suc (suc k) < n → ¬ (position ≡ line (suc k))) →
      (cells_along line (n - 2) position).lowest ≡ (cells_along line (n - 2) position).highest

-- the pixel lies in a cell of the sheet, borders included, at these offsets, and there in the piece, borders included
pub record Touches (s : List ℕ) (p : Place) (x y : ℕ) : Type 0 where
  pub has : HasCell s p.column p.row
  pub across : line_x s p.column + p.a ≡ x
  pub to_right : x ≤ line_x s (suc p.column)
  pub down : line_y s p.row + p.b ≡ y
  pub to_bottom : y ≤ line_y s (suc p.row)
  pub piece : T (triangle p.piece (point_at s p))

-- 01's place of a pixel of an accepted sheet
pub record PlaceLaws : Type 0 where
  -- touching says this
  pub means : (s : List ℕ) (p : Place) (x y : ℕ) → T (touches s p x y) ↔ Touches s p x y
  -- a place's point is r = a/W, s = b/H
  pub across : (s : List ℕ) (p : Place) → (point_at s p).r *ℚ whole (pos (cell_at s p).W.number) ≈ whole (pos p.a)
  pub down : (s : List ℕ) (p : Place) → (point_at s p).s *ℚ whole (pos (cell_at s p).H.number) ≈ whole (pos p.b)
  -- the place is one of the pixel's; every place of the pixel is one of the mesh
  pub there : (s : List ℕ) (x y : ℕ) → Accepted s → Inside s x y → T (touches s (place s x y) x y)
  pub inside : (s : List ℕ) (p : Place) (x y : ℕ) → Accepted s → T (touches s p x y) → Inside s x y
  -- a pixel on an inner line belongs to the cell to its right or below; one on the last line to the last cell
  pub in_column : (s : List ℕ) (x y i : ℕ) → Accepted s → suc i < columns s → line_x s i ≤ x → x < line_x s (suc i) → (place s x y).column ≡ i
  pub in_row : (s : List ℕ) (x y j : ℕ) → Accepted s → suc j < rows s → line_y s j ≤ y → y < line_y s (suc j) → (place s x y).row ≡ j
  pub last_column : (s : List ℕ) (y : ℕ) → Accepted s → suc (suc (place s (line_x s (columns s - 1)) y).column) ≡ columns s
  pub last_row : (s : List ℕ) (x : ℕ) → Accepted s → suc (suc (place s x (line_y s (rows s - 1))).row) ≡ rows s
  -- no cell of the pixel lies further to the right or below, and of its cell's pieces it has the lowest number
  pub rightmost : (s : List ℕ) (p : Place) (x y : ℕ) → Accepted s → T (touches s p x y) → p.column ≤ (place s x y).column
  pub lowermost : (s : List ℕ) (p : Place) (x y : ℕ) → Accepted s → T (touches s p x y) → p.row ≤ (place s x y).row
  pub lowest : (s : List ℕ) (p : Place) (x y : ℕ) → Accepted s → T (touches s p x y) → p.column ≡ (place s x y).column → p.row ≡ (place s x y).row →
      number (place s x y).piece ≤ number p.piece

-- from every piece and cell that touches the pixel
pub record Touching : Type 0 where
  -- exactly the same height, x-slope and y-slope
  pub jets : (s : List ℕ) (p : Place) (x y : ℕ) → Accepted s → T (touches s p x y) → jet_at s p ≋ jet_at s (place s x y)
  -- so the same level and tilt
  pub levels : (s : List ℕ) (p : Place) (x y : ℕ) → Accepted s → T (touches s p x y) → level_at s p ≡ level s x y
  pub tilts_x : (s : List ℕ) (p : Place) (x y : ℕ) → Accepted s → T (touches s p x y) → tilt_x_at s p ≡ tilt_x s x y
  pub tilts_y : (s : List ℕ) (p : Place) (x y : ℕ) → Accepted s → T (touches s p x y) → tilt_y_at s p ≡ tilt_y s x y
  -- the bend is not
  pub bends : ¬ ((s : List ℕ) (p : Place) (x y : ℕ) → Accepted s → T (touches s p x y) → bend_xx_at s p ≡ bend_xx s x y)
