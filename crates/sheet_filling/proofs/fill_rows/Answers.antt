-- `sheet_filling::fill_rows` meets its contract. Assumes nothing.
use Rattle.std.proofs.Common.{◌≤◌, refl, ◌∙◌, add-one, arith}
use Rattle.sheet_layout.specs.Format.{rows}
use Rattle.sheet_slopes.specs.InPlace.{rows_filled}
use Rattle.sheet_slopes.proofs.InPlace.{rows_fillable, rows_columns, rows_rows}
use Rattle.sheet_filling.proofs.fill_rows.Goals as goal

pub loop-row-init : goal.loop-row-init
unfolding rows_filled
loop-row-init c = refl

pub fill_row-requires : goal.fill_row-requires
fill_row-requires c =
    let part : c.loop-row.row ≤ rows c.args.sheet.now = omega arith in
    rw c.loop-row.invariant (rows_fillable c.requires _ part, rw (rows_rows c.requires _ part) (omega arith))

pub loop-row-preserved : goal.loop-row-preserved
unfolding rows_filled
loop-row-preserved c =
    let part : c.loop-row.row ≤ rows c.args.sheet.now = omega arith in
    c.fill_row.ensures ∙ rw (c.loop-row.invariant, add-one c.loop-row.row, rows_columns c.requires _ part) refl
