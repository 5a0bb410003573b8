-- How the code holds the cells that touch a pixel, the pixel in each, and a place. Assumes nothing.
use Rattle.std.specs.Prelude.{ℕ, suc, ◌+◌, ◌*◌, ◌-◌, ◌≤◌, ◌<◌, List, Bool, ◌||◌, ltb, length}
use Rattle.element_cell.specs.Pieces.{named}
use Rattle.sheet_layout.specs.Format.{columns, rows, x_lines_offset, y_lines_offset, line_from, line_x, line_y}
use Rattle.sheet_calls.specs.WellFormed.{Rising}
use Rattle.surface_of_sheet.specs.Place as surface
use Rattle.surface_of_sheet.specs.Place.{columns_at, rows_at}
use Rattle.element_cell.specs.declared.Pixel.{Pixel}
use Rattle.surface_places.specs.declared.Cells.{Cells}
use Rattle.surface_places.specs.declared.Found.{Found}
use Rattle.surface_places.specs.declared.OnAxis.{OnAxis}
use Rattle.surface_places.specs.declared.Place.{Place}

-- an axis with 2 to 65 lines, which lie in the sheet and rise
pub record Axis (s : List ℕ) (start lines : ℕ) : Type 0 where
  pub few : 2 ≤ lines
  pub many : lines ≤ 65
  pub there : start + 2 * lines ≤ length s
  pub rising : Rising (line_from s start) lines

-- the two axes of a sheet: what finding a pixel asks of it, whatever its nodes
pub record Mesh (s : List ℕ) : Type 0 where
  pub across : Axis s x_lines_offset (columns s)
  pub down : Axis s (y_lines_offset s) (rows s)

-- a position from its first line to its last
pub record Between (line : ℕ → ℕ) (lines position : ℕ) : Type 0 where
  pub first : line 0 ≤ position
  pub last : position ≤ line (lines - 1)

-- a position before the first line or beyond the last
unfoldable pub off_axis : (ℕ → ℕ) → ℕ → ℕ → Bool
off_axis line lines position = ltb position (line 0) || ltb (line (lines - 1)) position

-- cell i along an axis of n lines touches a position: it is one of the axis's, and has the position between its lines, or on one
pub record CellTouches (line : ℕ → ℕ) (n i position : ℕ) : Type 0 where
  pub has : suc i < n
  pub starts : line i ≤ position
  pub ends : position ≤ line (suc i)

-- the lowest and the highest cell
abbrev pub cells_of : surface.Cells → Cells
cells_of c = record { lowest = c.lowest; highest = c.highest }

-- those of a pixel along both axes
unfoldable pub found : List ℕ → ℕ → ℕ → Found
found s x y = record { columns = cells_of (columns_at s x); rows = cells_of (rows_at s y) }

-- in a cell along an axis: the offset from its first line, and its size, the distance of its lines
unfoldable pub in_cell : (ℕ → ℕ) → ℕ → ℕ → OnAxis
in_cell line i position = record { offset = position - line i; size = line (suc i) - line i }

-- a pixel in the cell in column i and row j, with the cell's width and height
unfoldable pub pixel_in : List ℕ → ℕ → ℕ → ℕ → ℕ → Pixel
pixel_in s i j x y = record { a = x - line_x s i; b = y - line_y s j; width = line_x s (suc i) - line_x s i; height = line_y s (suc j) - line_y s j }

-- a place, with the width and height of its cell
unfoldable pub holding : List ℕ → surface.Place → Place
holding s p = record {
  column = p.column;
  row = p.row;
  pixel = record {
    a = p.a;
    b = p.b;
    width = line_x s (suc p.column) - line_x s p.column;
    height = line_y s (suc p.row) - line_y s p.row;
  };
  piece = named p.piece;
}
