-- `surface_bend_list::list_row` meets its contract. Assumes nothing.
use Rattle.std.proofs.Common.{ℕ, suc, ◌+◌, ◌-◌, ◌≡◌, ◌≤◌, ◌<◌, List, ℤ, arith}
use native.Mathlib.Numerals.{add-one}
use Rattle.element_bends.proofs.Stores.{Stored, goes_on}
use Rattle.sheet_layout.specs.Format.{columns, line_x}
use Rattle.sheet_calls.specs.Refusals.{Accepted}
use Rattle.sheet_calls.specs.WellFormed.{Inside}
use Rattle.surface_of_sheet.specs.Place.{columns_at}
use Rattle.surface_of_sheet.proofs.Cells.{sound}
use Rattle.surface_of_sheet.proofs.CellsAlong.{low_below}
use Rattle.surface_places.specs.Found.{CellTouches, cells_of}
use Rattle.surface_places.specs.declared.Cells.{Cells}
use Rattle.surface_bends.specs.Bends.{in_turn}
use Rattle.surface_bends.proofs.Touched.{columns_there}
use Rattle.surface_bend_list.specs.Rows.{bends_in, bends_in_row}
use Rattle.surface_bend_list.proofs.Rows.{column_at_lem, before_column, behind_column}
use Rattle.surface_bend_list.proofs.Stored.{begins, next_fits, ends}
use Rattle.surface_bend_list.proofs.list_row.Goals as goal

-- the columns that touch the pixel: they are the sheet's, and the others add nothing
module _ (s : List ℕ) (x y j : ℕ) (accepted : Accepted s) (inside : Inside s x y) {cells : Cells} (are : cells ≡ cells_of (columns_at s x)) where
  there : suc cells.highest < columns s
  there = rw are (columns_there s accepted x y inside)

  touching : (i : ℕ) → cells.lowest ≤ i → i ≤ cells.highest → CellTouches (line_x s) (columns s) i x
  touching i l h = column_at_lem s x y accepted inside i (rw are at l) (rw are at h)

  ordered : cells.lowest ≤ cells.highest + 1
  ordered = rw are (let l = low_below (line_x s) x (columns s - 2) in omega arith)

  module _ {b : List ℤ} {at : ℕ} where
    begun : Stored b at (in_turn cells.lowest (bends_in s x y j)) b at
    begun = begins _ _ (λ i h. before_column s x y accepted inside j i (rw are at h))

    whole : {n : ℕ} {l : List ℤ} {end : ℕ} → Stored b at (in_turn n (bends_in s x y j)) l end →
        cells.highest < n → (cells.lowest ≤ cells.highest + 1 → n ≤ cells.highest + 1) → Stored b at (bends_in_row s x y j) l end
    unfolding bends_in_row
    whole v past to = ends _ _ v (columns s - 1) (omega (arith, to ordered, there))
        (λ i h m. behind_column s x y accepted inside j i (rw are at (let far : cells.highest < i = omega arith in far)))

pub overflow_add-column-end : goal.overflow_add-column-end
overflow_add-column-end c = let a = c.args in omega (arith, there _ _ _ a.row a.spot.sheet.accepted a.spot.inside c.requires.touches.0, (sound _ a.spot.sheet.accepted).many_columns)

pub loop-column-init : goal.loop-column-init
loop-column-init c = let a = c.args in begun _ _ _ _ a.spot.sheet.accepted a.spot.inside c.requires.touches.0

pub list_cell-end-requires-clause-touches : goal.list_cell-end-requires-clause-touches
list_cell-end-requires-clause-touches c =
    let a = c.args in (touching _ _ _ a.row a.spot.sheet.accepted a.spot.inside c.requires.touches.0 _ c.loop-column.auto.column (omega (arith, c.loop-column-test.true)), c.requires.touches.1)

pub list_cell-end-requires-clause-column_in_bounds : goal.list_cell-end-requires-clause-column_in_bounds
unfolding bends_in_row
list_cell-end-requires-clause-column_in_bounds c =
    let a = c.args in
    next_fits _ _ c.loop-column.invariant (columns a.spot.sheet.bytes.now - 1)
    (omega (arith, c.loop-column-test.true, there _ _ _ a.row a.spot.sheet.accepted a.spot.inside c.requires.touches.0)) c.requires.row_in_bounds

pub loop-column-preserved : goal.loop-column-preserved
unfolding in_turn
loop-column-preserved c = let e = c.list_cell-end.ensures in rw (add-one c.loop-column.column) (goes_on c.loop-column.invariant _ (e.answer, e.list))

pub returns-clause-answer : goal.returns-clause-answer
returns-clause-answer c =
    let a = c.args in
    (whole _ _ _ _ a.spot.sheet.accepted a.spot.inside c.requires.touches.0 c.loop-column.invariant (omega (arith, c.loop-column-test.false)) c.loop-column.auto.column-end).behind

pub returns-clause-list : goal.returns-clause-list
returns-clause-list c =
    let a = c.args in
    (whole _ _ _ _ a.spot.sheet.accepted a.spot.inside c.requires.touches.0 c.loop-column.invariant (omega (arith, c.loop-column-test.false)) c.loop-column.auto.column-end).holds
