-- The cells that touch a position between an axis's outer lines. Assumes nothing.
use Rattle.std.proofs.Common.{◌≡◌, ℕ, suc, ◌-◌, ◌≤◌, ◌<◌, sym, ap, ◌∙◌, arith}
use native.Mathlib.Decide.{dec_lt}
use Rattle.sheet_calls.specs.WellFormed.{Rising}
use Rattle.surface_of_sheet.specs.Place.{lowest_along, highest_along, cells_along}
use Rattle.surface_of_sheet.proofs.Along.{along_starts, axis_cell, axis_ends}
use Rattle.surface_of_sheet.proofs.CellsAlong.{low_below, low_last, cell_laws}
use Rattle.surface_places.specs.Found.{Between, CellTouches, cells_of}

module _ (line : ℕ → ℕ) (lines position : ℕ) (few : 2 ≤ lines) (rising : Rising line lines) (between : Between line lines position) where
  -- the highest
  abbrev cell_on : ℕ
  cell_on = highest_along line (lines - 2) position

  -- it touches the position
  pub highest_holds : CellTouches line lines cell_on position
  highest_holds = record {
    has = axis_cell line few position;
    starts = along_starts line position (lines - 2) between.first;
    ends = axis_ends line few position between.last;
  }

  -- on its first line the one before it does too, where there is one; else it is the only one
  pub two_cells : 0 < cell_on → position ≤ line cell_on → record { lowest = cell_on - 1; highest = cell_on } ≡ cells_of (cells_along line (lines - 2) position)
  two_cells h l =
      let back : suc (cell_on - 1) ≡ cell_on = omega arith in
      let on : position ≡ line (suc (cell_on - 1)) = rw back (omega (arith, highest_holds.starts)) in
      let both = cell_laws.inner line lines (cell_on - 1) rising (omega (arith, highest_holds.has)) in
      let lowest = sym (ap (λ q. lowest_along line (lines - 2) q) on ∙ ap (λ c. c.lowest) both) in
      λ t. record { lowest = lowest t; highest = cell_on }

  pub one_cell : (0 < cell_on → line cell_on < position) → record { lowest = cell_on; highest = cell_on } ≡ cells_of (cells_along line (lines - 2) position)
  one_cell h =
      let below = low_below line position (lines - 2) in
      let least : 0 < cell_on → cell_on ≤ lowest_along line (lines - 2) position =
      λ p. low_last line position (lines - 2) cell_on (omega (arith, highest_holds.has)) (h p) in
      let lowest : cell_on ≡ lowest_along line (lines - 2) position = elim (dec_lt 0 cell_on) [
        | yes p ↦ omega (arith, least p)
        | no d ↦ omega arith
      ] in
      λ t. record { lowest = lowest t; highest = cell_on }
