-- `sheet_filling::fill_row` meets its contract. Assumes nothing.
use Rattle.std.proofs.Common.{◌≤◌, refl, ◌∙◌, add-one, arith}
use Rattle.sheet_layout.specs.Format.{columns}
use Rattle.sheet_slopes.specs.InPlace.{row_filled}
use Rattle.sheet_slopes.proofs.InPlace.{row_fillable, row_columns, row_rows}
use Rattle.sheet_filling.proofs.fill_row.Goals as goal

pub loop-column-init : goal.loop-column-init
unfolding row_filled
loop-column-init c = refl

pub fill_node-requires : goal.fill_node-requires
fill_node-requires c =
    let (f, l) = c.requires in
    let part : c.loop-column.column ≤ columns c.args.sheet.now = omega arith in
    rw c.loop-column.invariant (row_fillable f _ l _ part, rw (row_columns f _ l _ part) (omega arith), rw (row_rows f _ l _ part) l)

pub loop-column-preserved : goal.loop-column-preserved
unfolding row_filled
loop-column-preserved c = c.fill_node.ensures ∙ rw (c.loop-column.invariant, add-one c.loop-column.column) refl
