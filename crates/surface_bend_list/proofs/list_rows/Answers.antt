-- `surface_bend_list::list_rows` meets its contract. Assumes nothing.
use Rattle.std.proofs.Common.{ℕ, suc, ◌+◌, ◌-◌, ◌≡◌, ◌≤◌, ◌<◌, List, ℤ, length, ap, arith, ◌∙◌}
use native.Mathlib.Nat.{zero-add}
use native.Mathlib.Numerals.{add-one}
use Rattle.element_bends.proofs.Stores.{Stored, goes_on}
use Rattle.sheet_layout.specs.Format.{rows, line_y}
use Rattle.sheet_calls.specs.Refusals.{Accepted}
use Rattle.sheet_calls.specs.WellFormed.{Inside}
use Rattle.surface_of_sheet.specs.Place.{columns_at, rows_at}
use Rattle.surface_of_sheet.proofs.Cells.{sound}
use Rattle.surface_of_sheet.proofs.CellsAlong.{low_below}
use Rattle.surface_places.specs.Found.{CellTouches, cells_of, found}
use Rattle.surface_places.specs.declared.Found.{Found}
use Rattle.surface_bends.specs.Bends.{in_turn, bends}
use Rattle.surface_bends.proofs.Numbers.{few}
use Rattle.surface_bends.proofs.Touched.{rows_there}
use Rattle.surface_bend_list.specs.Rows.{bends_in_row}
use Rattle.surface_bend_list.proofs.Rows.{rows_are, row_at, before_row, behind_row}
use Rattle.surface_bend_list.proofs.Stored.{begins, next_fits, ends}
use Rattle.surface_bend_list.proofs.list_rows.Goals as goal

-- the rows that touch the pixel: they are the sheet's, and the others add nothing
module _ (s : List ℕ) (x y : ℕ) (accepted : Accepted s) (inside : Inside s x y) {cells : Found} (are : cells ≡ found s x y) where
  columns_are : cells.columns ≡ cells_of (columns_at s x)
  unfolding found
  columns_are = ap (λ (f : Found). f.columns) are

  rows_found : cells.rows ≡ cells_of (rows_at s y)
  unfolding found
  rows_found = ap (λ (f : Found). f.rows) are

  there : suc cells.rows.highest < rows s
  there = rw rows_found (rows_there s accepted x y inside)

  touching : (j : ℕ) → cells.rows.lowest ≤ j → j ≤ cells.rows.highest → CellTouches (line_y s) (rows s) j y
  touching j l h = row_at s x y accepted inside j (rw rows_found at l) (rw rows_found at h)

  ordered : cells.rows.lowest ≤ cells.rows.highest + 1
  ordered = rw rows_found (let l = low_below (line_y s) y (rows s - 2) in omega arith)

  module _ (b : List ℤ) where
    room : 24 ≤ length b → 0 + length (in_turn (rows s - 1) (bends_in_row s x y)) ≤ length b
    room h = rw (rows_are s x y) (omega (arith, few s x y accepted, h))

    begun : Stored b 0 (in_turn cells.rows.lowest (bends_in_row s x y)) b 0
    begun = begins _ _ (λ j h. before_row s x y accepted inside j (rw rows_found at h))

    whole : {n : ℕ} {l : List ℤ} {end : ℕ} → Stored b 0 (in_turn n (bends_in_row s x y)) l end →
        cells.rows.highest < n → (cells.rows.lowest ≤ cells.rows.highest + 1 → n ≤ cells.rows.highest + 1) → Stored b 0 (bends s x y) l end
    whole v past to = rw (rows_are s x y) at (ends _ _ v (rows s - 1) (omega (arith, to ordered, there))
        (λ j h m. behind_row s x y accepted inside j (rw rows_found at (let far : cells.rows.highest < j = omega arith in far))))

pub overflow_add-row-end : goal.overflow_add-row-end
overflow_add-row-end c = let a = c.args.spot in omega (arith, there _ _ _ a.sheet.accepted a.inside c.cells-cells.ensures, (sound _ a.sheet.accepted).many_rows)

pub loop-row-init : goal.loop-row-init
loop-row-init c = let a = c.args.spot in begun _ _ _ a.sheet.accepted a.inside c.cells-cells.ensures _

pub list_row-at-requires-clause-touches : goal.list_row-at-requires-clause-touches
list_row-at-requires-clause-touches c =
    let a = c.args.spot in (
      columns_are _ _ _ a.sheet.accepted a.inside c.cells-cells.ensures,
      touching _ _ _ a.sheet.accepted a.inside c.cells-cells.ensures _ c.loop-row.auto.row (omega (arith, c.loop-row-test.true)),
    )

pub list_row-at-requires-clause-row_in_bounds : goal.list_row-at-requires-clause-row_in_bounds
list_row-at-requires-clause-row_in_bounds c =
    let a = c.args.spot in
    next_fits _ _ c.loop-row.invariant (rows a.sheet.bytes.now - 1) (omega (arith, c.loop-row-test.true, there _ _ _ a.sheet.accepted a.inside c.cells-cells.ensures))
    (room _ _ _ a.sheet.accepted a.inside c.cells-cells.ensures _ c.requires)

pub loop-row-preserved : goal.loop-row-preserved
unfolding in_turn
loop-row-preserved c = let e = c.list_row-at.ensures in rw (add-one c.loop-row.row) (goes_on c.loop-row.invariant _ (e.answer, e.list))

pub returns-clause-answer : goal.returns-clause-answer
returns-clause-answer c =
    let a = c.args.spot in
    (whole _ _ _ a.sheet.accepted a.inside c.cells-cells.ensures _ c.loop-row.invariant (omega (arith, c.loop-row-test.false)) c.loop-row.auto.row-end).behind ∙ zero-add _

pub returns-clause-list : goal.returns-clause-list
returns-clause-list c =
    let a = c.args.spot in
    (whole _ _ _ a.sheet.accepted a.inside c.cells-cells.ensures _ c.loop-row.invariant (omega (arith, c.loop-row-test.false)) c.loop-row.auto.row-end).holds
