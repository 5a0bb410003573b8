-- What the loop of `sheet_filling::fill_rows` keeps: the rows before this one are filled.
use Rattle.std.proofs.Common.{◌≡◌}
use Rattle.sheet_slopes.specs.InPlace.{rows_filled}
use Rattle.sheet_filling.proofs.fill_rows.Given as goal

abbrev pub invariant-loop-row : goal.invariant-loop-row
invariant-loop-row l = l.sheet ≡ rows_filled l.initial.sheet l.stiffness l.row
