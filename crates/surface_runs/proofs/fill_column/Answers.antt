-- `surface_runs::fill_column` meets its contract. Assumes nothing.
use Prim.Native.Nat.{ℕ, suc, ◌+◌, ◌-◌}
use mathlib.Core.Path.{◌≡◌, ◌∙◌, ap, subst⁻¹}
use mathlib.Core.List.{List}
use native.Mathlib.Nat.{le_of_lt}
use native.Mathlib.Numerals.{add-one}
use native.Mathlib.Omega.{arith}
use borrow.Author.Rules.{rules}
use lib.IntN.{ℤ}
use Rattle.integers.specs.Stepwise.{steps, starting_at}
use Rattle.integers.proofs.Stepwise.{steps_same, starting_at_lem}
use Rattle.element_sibson.specs.Element.{corner_numbers}
use Rattle.element_cell.specs.Cell.{cell, PixelInCell}
use Rattle.element_cell.specs.Corners.{corners, arrays, largest, AllWithin}
use Rattle.element_cell.specs.declared.Pixel.{Pixel}
use Rattle.element_cell.proofs.Arrays.{held}
use Rattle.sheet_layout.specs.Format.{columns, line_x}
use Rattle.sheet_calls.proofs.WellFormed.{lines_there}
use Rattle.surface_of_sheet.proofs.Cells.{sound, x_rising}
use Rattle.element_spans.specs.Needs.{FitsCell}
use Rattle.surface_of_sheet.specs.Surface.{nodes_of}
use Rattle.element_spans.specs.Span.{to_right, cell_level}
use Rattle.surface_runs.specs.Strips.{done_in, AtColumn}
use Rattle.surface_runs.specs.declared.Strip.{Strip}
use Rattle.surface_runs.proofs.Columns.{strip_cell, column_starts, column_ends, ends}
use Rattle.surface_runs.proofs.Levels.{next_pixel, pixels_fit, column_within, column_levels}
use Rattle.surface_runs.proofs.fill_column.Goals as goal

-- ---- the column's two lines as the code has them

module _ {s : List ℕ} {t : Strip} {x count done column left right : ℕ} (at : AtColumn s t x count done column)
    (first : left ≡ line_x s column) (second : right ≡ line_x s (column + 1)) where
  right_is : right ≡ line_x s (suc column)
  right_is = second ∙ ap (line_x s) (add-one column)

  width_is : right - left ≡ line_x s (suc column) - line_x s column
  width_is = λ j. right_is j - first j

  -- the next pixel, its left line and its width given
  abbrev pixel_of : ℕ → ℕ → Pixel
  pixel_of from w = record { a = x + done - from; b = t.offset; width = w; height = t.height }

  pixel_is : pixel_of left (right - left) ≡ next_pixel at
  pixel_is = λ j. pixel_of (first j) (width_is j)

  -- the corner numbers of its cell, the width given
  abbrev numbers_of : ℕ → List (List ℤ)
  numbers_of w = arrays (corner_numbers (cell w t.height) (nodes_of s column t.row))

  corner : {n : List (List ℤ)} → n ≡ numbers_of (right - left) → n ≡ numbers_of (line_x s (suc column) - line_x s column)
  corner e = e ∙ ap numbers_of width_is

-- ---- the answers

pub line-left-requires : goal.line-left-requires
line-left-requires c = let h = (strip_cell c.requires.0).column in (lines_there _ c.requires.0.on.accepted, omega arith)

pub overflow_add-column : goal.overflow_add-column
overflow_add-column c = let h = (strip_cell c.requires.0).column in let many = (sound _ c.requires.0.on.accepted).many_columns in search rules

pub line-right-requires : goal.line-right-requires
line-right-requires c = let h = (strip_cell c.requires.0).column in (lines_there _ c.requires.0.on.accepted, omega arith)

pub overflow_sub-width : goal.overflow_sub-width
overflow_sub-width c =
    let rises = (x_rising _ c.requires.0.on.accepted).rises c.args.column (strip_cell c.requires.0).column in
    omega (arith, right_is c.requires.0 c.line-left.ensures.0 c.line-right.ensures.0, c.line-left.ensures.0, rises)

pub done_in-end-requires : goal.done_in-end-requires
done_in-end-requires c =
    let right = right_is c.requires.0 c.line-left.ensures.0 c.line-right.ensures.0 in
    ((strip_cell c.requires.0).column, right, omega (arith, right, column_ends c.requires.0))

pub corner_numbers-n-requires : goal.corner_numbers-n-requires
corner_numbers-n-requires c =
    let inside = (pixels_fit c.requires.0).inside in
    (strip_cell c.requires.0, rw (width_is c.requires.0 c.line-left.ensures.0 c.line-right.ensures.0) inside.width, inside.height)

pub overflow_sub-next : goal.overflow_sub-next
overflow_sub-next c = rw c.line-left.ensures.0 (column_starts c.requires.0)

pub overflow_sub-end : goal.overflow_sub-end
overflow_sub-end c = rw c.done_in-end.ensures (le_of_lt (ends c.requires.0).further)

pub overflow_add-next : goal.overflow_add-next
overflow_add-next c =
    let a = c.requires.0.on.accepted in let few = (sound _ a).few_columns in
    let last = (x_rising _ a).near (columns c.args.sheet.bytes.now - 1) (omega (arith, few)) in
    let to = c.requires.0.on.to in let more = c.requires.0.more in search rules

pub invariant_of-next : goal.invariant_of-next
invariant_of-next c =
    subst⁻¹ PixelInCell (pixel_is c.requires.0 c.line-left.ensures.0 c.line-right.ensures.0) (pixels_fit c.requires.0).inside

pub fill_cell-requires : goal.fill_cell-requires
fill_cell-requires c =
    let a = c.args in let e = c.done_in-end.ensures in let first = c.line-left.ensures.0 in let second = c.line-right.ensures.0 in (
      subst⁻¹ (AllWithin largest) (held _ (corner c.requires.0 first second c.corner_numbers-n.ensures)) (column_within c.requires.0),
      rw e (subst⁻¹ (λ p. FitsCell p (done_in a.sheet.bytes.now a.x a.column a.count - a.done)) (pixel_is c.requires.0 first second) (pixels_fit c.requires.0)),
      omega (arith, e, (ends c.requires.0).further, (ends c.requires.0).most, c.requires.1),
    )

-- what is stored
pub returns-clause-row : goal.returns-clause-row
returns-clause-row c =
    let a = c.args in let first = c.line-left.ensures.0 in let second = c.line-right.ensures.0 in
    c.fill_cell.ensures
    ∙ (λ j. steps (starting_at a.done (λ k. cell_level (corners c.corner_numbers-n.result) (to_right (pixel_is c.requires.0 first second j) k))) a.done (c.done_in-end.result - a.done) a.row.now)
    ∙ steps_same _ _ _ _ _ (λ k l. starting_at_lem a.done _ k ∙ column_levels c.requires.0 (corner c.requires.0 first second c.corner_numbers-n.ensures) k (omega (arith, l, c.done_in-end.ensures)))
