-- `light_sheet_ties::calls_for_c::bends` meets its contract. Assumes nothing.
use Rattle.light_sheet_ties.proofs.Lists.{bends_into_lem}
use Rattle.light_sheet_ties.proofs.calls_for_c.bends.Goals as goal

pub returns : goal.returns
returns c = let e = c.lvs_bends.ensures in bends_into_lem _ _ _ _ _ _ e.answer e.bends e.pieces e.kept
