-- `light_sheet_ties::calls::bends` meets its contract. Assumes nothing.
use Rattle.light_sheet_ties.proofs.Lists.{is_listed_lem}
use Rattle.light_sheet_ties.proofs.calls.bends.Goals as goal

pub returns : goal.returns
returns c = let e = c.bends.ensures in is_listed_lem e.answer e.list e.kept
