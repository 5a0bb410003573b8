-- `sheet_steepness::looking::row_too_steep` meets its contract. Assumes nothing.
use Rattle.sheet_calls.proofs.WellFormed.{header_there}
use Rattle.sheet_steepness.proofs.looking.row_too_steep.Goals as goal

pub columns-requires : goal.columns-requires
columns-requires c = header_there _ c.args.sheet.accepted
