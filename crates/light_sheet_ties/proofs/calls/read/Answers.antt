-- `light_sheet_ties::calls::read` meets its contract. Assumes nothing.
use Rattle.light_sheet_ties.proofs.Arrays.{is_read_lem}
use Rattle.light_sheet_ties.proofs.calls.read.Goals as goal

pub returns : goal.returns
returns c = let e = c.read.ensures in is_read_lem e.answer e.kept
