-- The two axes of a sheet; those of an accepted one. Assumes nothing.
use Prim.Native.Nat.{ℕ, ◌+◌, ◌*◌, ◌-◌, ◌≤◌}
use mathlib.Core.Path.{◌≡◌, refl, sym}
use mathlib.Core.Bool.{◌||◌, or_assoc}
use mathlib.Core.List.{List}
use native.Mathlib.Omega.{arith}
use lib.Dec.{ltb}
use lib.ListN.{length}
use Rattle.sheet_layout.specs.Format.{columns, rows, line_from, x_lines_offset, y_lines_offset, nodes_offset, line_x, line_y}
use Rattle.sheet_layout.specs.Axis.{start_of, lines_of, line_of}
use Rattle.sheet_layout.specs.declared.axis.Axis as layout
use Rattle.sheet_calls.specs.Refusals.{outside, Accepted}
use Rattle.sheet_calls.specs.WellFormed.{Inside, Rising}
use Rattle.element_sibson.specs.Piece.{piece_at}
use Rattle.element_cell.specs.Cell.{pixel_point, PixelInCell}
use Rattle.element_cell.specs.Pieces.{named}
use Rattle.element_cell.specs.declared.Pixel.{Pixel}
use Rattle.surface_of_sheet.specs.Place.{cell_of, cells_along, column_at, row_at, place}
use Rattle.surface_of_sheet.proofs.Cells.{gap_side, sound}
use Rattle.surface_places.specs.Found.{Mesh, Between, CellTouches, off_axis, cells_of, found, in_cell, pixel_in, holding}
use Rattle.surface_places.proofs.Touching.{highest_holds}

-- a pixel lies outside the mesh where it is off one of the axes
pub off_either : (s : List ℕ) (x y : ℕ) → off_axis (line_from s x_lines_offset) (columns s) x || off_axis (line_from s (y_lines_offset s)) (rows s) y ≡ outside s x y
unfolding off_axis outside
off_either s x y = sym (or_assoc (ltb x (line_x s 0) || ltb (line_x s (columns s - 1)) x) (ltb y (line_y s 0)) (ltb (line_y s (rows s - 1)) y))

-- the cells of a pixel, along each axis
pub found_is : (s : List ℕ) (x y : ℕ) →
    record { columns = cells_of (cells_along (line_from s x_lines_offset) (columns s - 2) x); rows = cells_of (cells_along (line_from s (y_lines_offset s)) (rows s - 2) y) }
    ≡ found s x y
unfolding found
found_is s x y = refl

-- a pixel in a cell, along each axis
pub pixel_is : (s : List ℕ) (i j x y : ℕ) →
    let across = in_cell (line_from s x_lines_offset) i x in let down = in_cell (line_from s (y_lines_offset s)) j y in
    record { a = across.offset; b = down.offset; width = across.size; height = down.size } ≡ pixel_in s i j x y
unfolding in_cell pixel_in
pixel_is s i j x y = refl

-- the place of a pixel, by its highest cells and the pixel in that cell
abbrev pub pixel_at : List ℕ → ℕ → ℕ → Pixel
pixel_at s x y = pixel_in s (found s x y).columns.highest (found s x y).rows.highest x y

pub place_is : (s : List ℕ) (x y : ℕ) →
    record { column = (found s x y).columns.highest; row = (found s x y).rows.highest; pixel = pixel_at s x y; piece = named (piece_at (pixel_point (pixel_at s x y))) }
    ≡ holding s (place s x y)
unfolding found pixel_in column_at row_at cell_of place holding
place_is s x y = refl

pub mesh : (s : List ℕ) → Accepted s → Mesh s
mesh s accepted = let w = sound s accepted in record {
  across = record { few = w.few_columns; many = w.many_columns; there = omega (arith, w.whole); rising = w.rising_x };
  down = record { few = w.few_rows; many = w.many_rows; there = omega (arith, w.whole); rising = w.rising_y };
}

-- the lines of a sheet with axes are there
pub lines_read : {s : List ℕ} → Mesh s → nodes_offset s ≤ length s
lines_read m = omega (arith, m.down.there)

-- what they are along either axis
pub record Along (a : layout.Axis) (s : List ℕ) : Type 0 where
  pub few : 2 ≤ lines_of a s
  pub there : start_of a s + 2 * lines_of a s ≤ length s
  pub rising : Rising (line_of a s) (lines_of a s)

pub along : {s : List ℕ} → Mesh s → (a : layout.Axis) → Along a s
along m layout.TheVariants.X = record { few = m.across.few; there = m.across.there; rising = m.across.rising }
along m layout.TheVariants.Y = record { few = m.down.few; there = m.down.there; rising = m.down.rising }

pub line_is_from : (a : layout.Axis) (s : List ℕ) (k : ℕ) → line_of a s k ≡ line_from s (start_of a s) k
line_is_from layout.TheVariants.X s k = refl
line_is_from layout.TheVariants.Y s k = refl

module _ (s : List ℕ) (x y : ℕ) (inside : Inside s x y) where
  pub x_between : Between (line_from s x_lines_offset) (columns s) x
  x_between = record { first = inside.left; last = inside.right }

  pub y_between : Between (line_from s (y_lines_offset s)) (rows s) y
  y_between = record { first = inside.top; last = inside.bottom }

-- a pixel in a cell that touches it
pub pixel_inside : {s : List ℕ} {i j x y : ℕ} → Mesh s → CellTouches (line_x s) (columns s) i x → CellTouches (line_y s) (rows s) j y → PixelInCell (pixel_in s i j x y)
unfolding pixel_in
pixel_inside m h k = record {
  width = gap_side m.across.rising _ h.has;
  height = gap_side m.down.rising _ k.has;
  across = omega (arith, h.ends);
  down = omega (arith, k.ends);
}

-- the highest cells touch the pixel
module _ {s : List ℕ} {x y : ℕ} (m : Mesh s) (inside : Inside s x y) where
  pub column_holds : CellTouches (line_x s) (columns s) (found s x y).columns.highest x
  unfolding found
  column_holds = highest_holds (line_x s) (columns s) x m.across.few m.across.rising (x_between s x y inside)

  pub row_holds : CellTouches (line_y s) (rows s) (found s x y).rows.highest y
  unfolding found
  row_holds = highest_holds (line_y s) (rows s) y m.down.few m.down.rising (y_between s x y inside)
