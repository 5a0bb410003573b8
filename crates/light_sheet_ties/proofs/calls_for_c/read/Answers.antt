-- `light_sheet_ties::calls_for_c::read` meets its contract. Assumes nothing.
use Rattle.light_sheet_ties.proofs.Arrays.{read_into}
use Rattle.light_sheet_ties.proofs.calls_for_c.read.Goals as goal

pub returns : goal.returns
returns c = let e = c.lvs_read.ensures in read_into _ _ _ _ _ _ e.answer e.values e.kept
