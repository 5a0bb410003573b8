-- `light_sheet_ties::calls_for_c::zoned_level` meets its contract. Assumes nothing.
use Rattle.light_sheet_ties.proofs.Zoned.{zoned_into_lem}
use Rattle.light_sheet_ties.proofs.calls_for_c.zoned_level.Goals as goal

pub returns : goal.returns
returns c = let e = c.lvs_zoned_level.ensures in zoned_into_lem _ _ _ _ _ _ _ e.answer e.level e.sheet e.zones
