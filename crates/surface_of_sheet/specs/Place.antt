-- Where a pixel lies: the lowest and the highest cell along each axis, and in the one that is read the offsets and the piece (01, "Four pieces of a cell").
-- Assumes nothing.
use Rattle.std.specs.Prelude.{ℕ, zero, suc, ◌+◌, ◌-◌, ◌<◌, List, Bool, ◌&&◌, cond, leb, ltb, eqb}
use Rattle.element_sibson.specs.Cubic.{Cell, Point, pixel}
use Rattle.element_sibson.specs.Piece.{Piece, triangle, piece_at}
use Rattle.element_cell.specs.Cell.{cell}
use Rattle.sheet_layout.specs.Format.{columns, rows, line_x, line_y}

-- ---- cells

-- the cell in column i and row j: between the vertical lines i and i + 1 and the horizontal lines j and j + 1
unfoldable pub cell_of : List ℕ → ℕ → ℕ → Cell
cell_of s i j = cell (line_x s (suc i) - line_x s i) (line_y s (suc j) - line_y s j)

-- it is one of the sheet's: a sheet has one cell fewer than lines, each way
pub record HasCell (s : List ℕ) (i j : ℕ) : Type 0 where
  pub column : suc i < columns s
  pub row : suc j < rows s

-- ---- places

-- a place on a sheet: a cell by its column and row, a and b pixels from the cell's left and top edges, a piece of the cell
pub record Place : Type 0 where
  pub column : ℕ
  pub row : ℕ
  pub a : ℕ
  pub b : ℕ
  pub piece : Piece

-- its cell
abbrev pub cell_at : List ℕ → Place → Cell
cell_at s p = cell_of s p.column p.row

-- its point, in the cell's own r and s
abbrev pub point_at : List ℕ → Place → Point
point_at s p = pixel (cell_at s p) p.a p.b

-- ---- the cells of a pixel

-- of the cells 0 to k along an axis, the highest that touches a position: the last that starts at or before it, or the first of all
unfoldable pub highest_along : (ℕ → ℕ) → ℕ → ℕ → ℕ
highest_along line zero position = zero
highest_along line (suc k) position = cond (leb (line (suc k)) position) (suc k) (highest_along line k position)

-- the lowest that does: the last that starts before it, or the first of all
unfoldable pub lowest_along : (ℕ → ℕ) → ℕ → ℕ → ℕ
lowest_along line zero position = zero
lowest_along line (suc k) position = cond (ltb (line (suc k)) position) (suc k) (lowest_along line k position)

-- both: on an inner line the cell before it and the one behind; elsewhere the same cell twice, on the outermost lines the one that is there
pub record Cells : Type 0 where
  pub lowest : ℕ
  pub highest : ℕ

abbrev pub cells_along : (ℕ → ℕ) → ℕ → ℕ → Cells
cells_along line k position = record { lowest = lowest_along line k position; highest = highest_along line k position }

-- a pixel's columns and rows: of n lines the last cell is number n − 2
abbrev pub columns_at : List ℕ → ℕ → Cells
columns_at s x = cells_along (line_x s) (columns s - 2) x

abbrev pub rows_at : List ℕ → ℕ → Cells
rows_at s y = cells_along (line_y s) (rows s - 2) y

-- ---- the place that a pixel is read at

-- the column and the row of the cell that a pixel is read from: on an inner line the cell to the right or below, on the outermost the last
unfoldable pub column_at : List ℕ → ℕ → ℕ
column_at s x = (columns_at s x).highest

unfoldable pub row_at : List ℕ → ℕ → ℕ
row_at s y = (rows_at s y).highest

-- cell, offsets and piece; on a diagonal `piece_at` takes the lowest number
unfoldable pub place : List ℕ → ℕ → ℕ → Place
place s x y =
    let i = column_at s x in let j = row_at s y in let a = x - line_x s i in let b = y - line_y s j in
    record { column = i; row = j; a = a; b = b; piece = piece_at (pixel (cell_of s i j) a b) }

-- ---- all places of a pixel

-- pixel (x, y) seen from a piece of the cell in column i and row j
abbrev pub seen : List ℕ → ℕ → ℕ → Piece → ℕ → ℕ → Place
seen s i j k x y = record { column = i; row = j; a = x - line_x s i; b = y - line_y s j; piece = k }

-- the piece of the cell touches pixel (x, y): the pixel lies in the cell, a and b pixels from its edges, and there in the piece, borders included
unfoldable pub touches : List ℕ → Place → ℕ → ℕ → Bool
touches s p x y =
    ltb (suc p.column) (columns s) && eqb (line_x s p.column + p.a) x && leb x (line_x s (suc p.column))
    && ltb (suc p.row) (rows s) && eqb (line_y s p.row + p.b) y && leb y (line_y s (suc p.row))
    && triangle p.piece (point_at s p)
