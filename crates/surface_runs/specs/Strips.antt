-- A run goes through a strip of cells: the level there, how far the run goes in one column of it, and what the code asks. Assumes nothing.
use Rattle.std.specs.Prelude.{ℕ, suc, ◌+◌, ◌-◌, ◌≤◌, ◌<◌, min, ◌≡◌, List, cond, eqb, ℤ}
use Rattle.element_sibson.specs.Cubic.{pixel}
use Rattle.element_sibson.specs.Piece.{piece_at}
use Rattle.sheet_layout.specs.Format.{columns, rows, line_x, line_y}
use Rattle.sheet_calls.specs.Refusals.{Accepted}
use Rattle.surface_of_sheet.specs.Place.{cell_of, column_at, row_at}
use Rattle.surface_of_sheet.specs.Surface.{level_at}
use Rattle.surface_runs.specs.declared.Strip.{Strip}

-- the strip of cells that the row of pixels at y lies in
unfoldable pub strip_at : List ℕ → ℕ → Strip
strip_at s y = let j = row_at s y in record { row = j; offset = y - line_y s j; height = line_y s (suc j) - line_y s j }

-- the level at x in a strip; in that of y it is the level at (x, y)
unfoldable pub strip_level : List ℕ → Strip → ℕ → ℤ
strip_level s t x =
    let i = column_at s x in let a = x - line_x s i in
    level_at s (record { column = i; row = t.row; a = a; b = t.offset; piece = piece_at (pixel (cell_of s i t.row) a t.offset) })

-- of a run of count pixels from x on: how many are done when those in this column are; the last column has the last line's pixel too
unfoldable pub done_in : List ℕ → ℕ → ℕ → ℕ → ℕ
done_in s x column count = cond (eqb (column + 2) (columns s)) count (min count (line_x s (suc column) - x))

-- ---- what the code asks

-- an accepted sheet, a strip of its cells, and count pixels from x on that lie between its first vertical line and its last
pub record OnStrip (s : List ℕ) (t : Strip) (x count : ℕ) : Type 0 where
  pub accepted : Accepted s
  pub row : suc t.row < rows s
  pub offset : t.offset ≤ t.height
  pub height : t.height ≡ line_y s (suc t.row) - line_y s t.row
  pub from : line_x s 0 ≤ x
  pub to : x + count ≤ suc (line_x s (columns s - 1))

-- such a run, of which some pixels are done, and the next lies in this column
pub record AtColumn (s : List ℕ) (t : Strip) (x count done column : ℕ) : Type 0 where
  pub on : OnStrip s t x count
  pub more : done < count
  pub here : column ≡ column_at s (x + done)
