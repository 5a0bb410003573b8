-- What the loop of `sheet_filling::fill_row` keeps: the row's nodes before this one are filled.
use Rattle.std.proofs.Common.{◌≡◌}
use Rattle.sheet_slopes.specs.InPlace.{row_filled}
use Rattle.sheet_filling.proofs.fill_row.Given as goal

abbrev pub invariant-loop-column : goal.invariant-loop-column
invariant-loop-column l = l.sheet ≡ row_filled l.initial.sheet l.stiffness l.row l.column
