-- How long a pixel's line is: of an accepted sheet no more than 64 bytes, and never empty. And the first pixel of the mesh. Assumes nothing.
use Prim.Native.Nat.{ℕ, ◌≤◌, ◌<◌}
use mathlib.Core.List.{List}
use native.Mathlib.Nat.{lt_of_lt_of_le}
use native.Mathlib.Omega.{arith}
use lib.Dec.{lit≤}
use lib.IntN.{pos}
use lib.ListN.{length, length-append}
use Rattle.sheet_calls.specs.Refusals.{Accepted}
use Rattle.sheet_calls.specs.WellFormed.{Inside}
use Rattle.surface_of_sheet.specs.Surface.{level, tilt_x, tilt_y}
use Rattle.surface_of_sheet.proofs.Cells.{sound, last_x_near, last_y_near}
use Rattle.surface_of_sheet.proofs.Places.{node_inside}
use Rattle.surface_of_sheet.proofs.Sizes.{level_below, tilts_below}
use Rattle.program_text.specs.Text.{blank, newline, field, line}
use Rattle.program_text.proofs.Lengths.{field_length}
use Rattle.program_listing.specs.Listing.{first_x, first_y, pixel_line, line_room}

-- the first pixel is of the mesh
pub first_inside : (s : List ℕ) → Accepted s → Inside s (first_x s) (first_y s)
first_inside s accepted = let w = sound s accepted in node_inside s accepted 0 0 (omega (arith, w.few_columns)) (omega (arith, w.few_rows))

-- a pixel's line ends in a character of its own
pub line_some : (s : List ℕ) (x y : ℕ) → 0 < length (pixel_line s x y)
unfolding pixel_line line field
line_some s x y = simp length-append (omega arith)

module _ (s : List ℕ) (x y : ℕ) (accepted : Accepted s) (inside : Inside s x y) where
  x_length : length (field (pos x) blank) ≤ 6
  x_length = field_length 4 (lit≤ tt) (lit≤ tt) (pos x) blank (omega (arith, inside.right, last_x_near s accepted))

  y_length : length (field (pos y) blank) ≤ 6
  y_length = field_length 4 (lit≤ tt) (lit≤ tt) (pos y) blank (omega (arith, inside.bottom, last_y_near s accepted))

  level_length : length (field (level s x y) blank) ≤ 9
  level_length = field_length 7 (lit≤ tt) (lit≤ tt) (level s x y) blank (lt_of_lt_of_le (level_below s x y accepted inside) (lit≤ tt))

  tilt_x_length : length (field (tilt_x s x y) blank) ≤ 11
  tilt_x_length = field_length 9 (lit≤ tt) (lit≤ tt) (tilt_x s x y) blank (lt_of_lt_of_le (tilts_below s x y accepted inside).0 (lit≤ tt))

  tilt_y_length : length (field (tilt_y s x y) newline) ≤ 11
  tilt_y_length = field_length 9 (lit≤ tt) (lit≤ tt) (tilt_y s x y) newline (lt_of_lt_of_le (tilts_below s x y accepted inside).1 (lit≤ tt))

  pub line_fits : length (pixel_line s x y) ≤ line_room
  unfolding pixel_line line
  line_fits =
      simp length-append
      (omega (arith, x_length, y_length, level_length, tilt_x_length, tilt_y_length))
