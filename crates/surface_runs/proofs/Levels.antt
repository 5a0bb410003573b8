-- The levels that a run stores in one column of cells are those of its strip, and these are what its slots are to hold. Assumes nothing.
use Prim.Native.Nat.{ℕ, suc, ◌+◌, ◌-◌, ◌<◌}
use mathlib.Core.Path.{◌≡◌, refl, sym, ◌∙◌, ap}
use mathlib.Core.List.{List}
use native.Mathlib.Omega.{arith}
use lib.IntN.{ℤ}
use Rattle.element_sibson.specs.Cubic.{pixel}
use Rattle.element_sibson.specs.Piece.{piece_at}
use Rattle.element_sibson.specs.Element.{CornerNumbers, corner_numbers, sibson, element}
use Rattle.element_cell.specs.Cell.{cell}
use Rattle.element_cell.specs.Corners.{corners, arrays, largest, AllWithin}
use Rattle.element_cell.specs.declared.Pixel.{Pixel}
use Rattle.element_cell.proofs.Arrays.{held}
use Rattle.element_readings.specs.Reading.{level_of}
use Rattle.sheet_layout.specs.Format.{line_x}
use Rattle.surface_of_sheet.specs.Place.{cell_of, place}
use Rattle.surface_of_sheet.specs.Surface.{nodes_of, set_of, level_at, level}
use Rattle.surface_of_sheet.specs.Run.{slot_level}
use Rattle.surface_of_sheet.proofs.Cells.{gap_side, x_rising, y_rising, numbers_within}
use Rattle.element_spans.specs.Span.{to_right, cell_level}
use Rattle.element_spans.specs.Needs.{FitsCell}
use Rattle.surface_runs.specs.Strips.{strip_at, strip_level, done_in, AtColumn}
use Rattle.surface_runs.specs.declared.Strip.{Strip}
use Rattle.surface_runs.proofs.Columns.{strip_cell, column_starts, column_ends, ends}

-- what slot k of the run from (x, y) is to hold is the level at x + k in the strip of y
pub slot_level_lem : (s : List ℕ) (x y k : ℕ) → strip_level s (strip_at s y) (x + k) ≡ slot_level s x y k
unfolding strip_level strip_at level place slot_level
slot_level_lem s x y k = refl

-- ---- in one column

module _ {s : List ℕ} {t : Strip} {x count done i : ℕ} (at : AtColumn s t x count done i) where
  abbrev width : ℕ
  width = line_x s (suc i) - line_x s i

  -- the run's next pixel, in its cell
  abbrev pub next_pixel : Pixel
  next_pixel = record { a = x + done - line_x s i; b = t.offset; width = width; height = t.height }

  pub pixels_fit : FitsCell next_pixel (done_in s x i count - done)
  pixels_fit = let e = ends at in let c = strip_cell at in
      let from = column_starts at in let to = column_ends at in record {
        inside = record {
          width = gap_side (x_rising s at.on.accepted) i c.column;
          height = rw at.on.height (gap_side (y_rising s at.on.accepted) t.row c.row);
          across = omega arith;
          down = at.on.offset;
        };
        fits = omega (arith, e.fits, e.further);
      }

  -- its cell's corner numbers are in range
  pub column_within : AllWithin largest (corner_numbers (cell width t.height) (nodes_of s i t.row))
  unfolding cell_of
  column_within = rw at.on.height (numbers_within s at.on.accepted i t.row (strip_cell at))

  -- the level a pixels from the left edge of a cell in this column, h pixels high, with these corner numbers
  abbrev level_from : CornerNumbers → ℕ → ℕ → ℤ
  level_from n h a = let P = pixel (cell width h) a t.offset in level_of (cell width h) (sibson n (piece_at P)) P

  -- the level at a position in the strip, seen from a column
  abbrev seen_from : ℕ → ℕ → ℤ
  seen_from c p = let a = p - line_x s c in level_at s (record { column = c; row = t.row; a = a; b = t.offset; piece = piece_at (pixel (cell_of s c t.row) a t.offset) })

  pub column_levels : {n : List (List ℤ)} → n ≡ arrays (corner_numbers (cell width t.height) (nodes_of s i t.row)) →
      (k : ℕ) → done + k < done_in s x i count → cell_level (corners n) (to_right next_pixel k) ≡ strip_level s t (x + (done + k))
  unfolding cell_level strip_level level_at set_of element cell_of
  column_levels e k l =
      let from = column_starts at in
      let across : x + done - line_x s i + k ≡ x + (done + k) - line_x s i = omega arith in
      (λ j. level_from (held _ e j) t.height (across j))
      ∙ (λ j. level_from (corner_numbers (cell width (at.on.height j)) (nodes_of s i t.row)) (at.on.height j) (x + (done + k) - line_x s i))
      ∙ sym (ap (λ c. seen_from c (x + (done + k))) ((ends at).same k l))
