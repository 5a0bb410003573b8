-- `light_sheet_ties::calls::zoned_level` meets its contract. Assumes nothing.
use Rattle.light_sheet_ties.proofs.Zoned.{is_zoned_lem}
use Rattle.light_sheet_ties.proofs.calls.zoned_level.Goals as goal

pub returns : goal.returns
returns c = let e = c.zoned_level.ensures in is_zoned_lem e.answer e.sheet e.zones
