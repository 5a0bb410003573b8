-- How large the readings of an accepted sheet are: a level below 2²⁰, tilts below 2²⁷, bends below 2³⁴, so all are small. Assumes nothing.
use Prim.Native.Nat.{ℕ, ◌^◌, ◌≤◌, ◌<◌}
use mathlib.Core.List.{List}
use native.Mathlib.Nat.{lt_of_lt_of_le}
use lib.Dec.{lit≤}
use lib.IntN.{ℤ, nat_abs}
use Rattle.element_sibson.specs.Cubic.{Cell}
use Rattle.element_sibson.specs.Element.{CornerNumbers, corner_numbers, element}
use Rattle.element_cell.specs.Corners.{largest, AllWithin}
use Rattle.element_readings.specs.Bounds.{On}
use Rattle.element_readings.proofs.Bounds.{bounds}
use Rattle.sheet_calls.specs.Refusals.{Accepted}
use Rattle.sheet_calls.specs.WellFormed.{Inside}
use Rattle.surface_answers.specs.Answers.{FitsFloat}
use Rattle.surface_of_sheet.specs.Place.{Place, cell_at, point_at, column_at, row_at, place}
use Rattle.surface_of_sheet.specs.Surface.{nodes_of, set_of, level_at, tilt_x_at, tilt_y_at, bend_xx_at, bend_xy_at, bend_yy_at, level, tilt_x, tilt_y, bend_xx, bend_xy, bend_yy}
use Rattle.surface_of_sheet.proofs.Cells.{numbers_within}
use Rattle.surface_of_sheet.proofs.Places.{has_cell, there, on_piece}

small : (z : ℤ) {n : ℕ} → nat_abs z < n → n ≤ 2 ^ 53 → FitsFloat z
unfolding FitsFloat
small z h l = lt_of_lt_of_le h l

module _ (s : List ℕ) (x y : ℕ) (accepted : Accepted s) (inside : Inside s x y) where
  abbrev p : Place
  p = place s x y

  abbrev C : Cell
  C = cell_at s p

  -- the corner numbers of the pixel's cell
  abbrev n : CornerNumbers
  n = corner_numbers C (nodes_of s p.column p.row)

  all_within : AllWithin largest n
  unfolding place
  all_within = numbers_within s accepted (column_at s x) (row_at s y) (has_cell s accepted x y)

  on : On p.piece (point_at s p)
  on = on_piece s accepted (there s accepted x y inside)

  pub level_below : nat_abs (level s x y) < 2 ^ 20
  unfolding element set_of level level_at
  level_below = bounds.levels C n all_within p.piece (point_at s p) on

  pub small_level : FitsFloat (level s x y)
  small_level = small (level s x y) level_below (lit≤ tt)

  pub tilts_below : (nat_abs (tilt_x s x y) < 2 ^ 27) × (nat_abs (tilt_y s x y) < 2 ^ 27)
  unfolding element set_of tilt_x tilt_y tilt_x_at tilt_y_at
  tilts_below = (bounds.tilts_x C n all_within p.piece (point_at s p) on.in_cell, bounds.tilts_y C n all_within p.piece (point_at s p) on.in_cell)

  pub small_tilts : FitsFloat (tilt_x s x y) × FitsFloat (tilt_y s x y)
  small_tilts = (small (tilt_x s x y) tilts_below.0 (lit≤ tt), small (tilt_y s x y) tilts_below.1 (lit≤ tt))

  pub small_bends : FitsFloat (bend_xx s x y) × FitsFloat (bend_xy s x y) × FitsFloat (bend_yy s x y)
  unfolding element set_of bend_xx bend_xy bend_yy bend_xx_at bend_xy_at bend_yy_at
  small_bends = (
    small (bend_xx s x y) (bounds.bends_xx C n all_within p.piece (point_at s p) on.in_cell) (lit≤ tt),
    small (bend_xy s x y) (bounds.bends_xy C n all_within p.piece (point_at s p) on.in_cell) (lit≤ tt),
    small (bend_yy s x y) (bounds.bends_yy C n all_within p.piece (point_at s p) on.in_cell) (lit≤ tt),
  )
