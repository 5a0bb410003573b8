-- `sheet_steepness::looking::some_too_steep` meets its contract. Assumes nothing.
use Rattle.std.proofs.Common.{rules}
use Rattle.sheet_calls.proofs.WellFormed.{header_there}
use Rattle.sheet_slopes.specs.Slopes.{some_too_steep}
use Rattle.sheet_steepness.proofs.looking.some_too_steep.Goals as goal

pub rows-requires : goal.rows-requires
rows-requires c = header_there _ c.args.sheet.accepted

pub returns : goal.returns
unfolding some_too_steep
returns c = search rules
