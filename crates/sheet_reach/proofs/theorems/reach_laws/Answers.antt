-- `sheet_reach::theorems::reach_laws` meets its contract. Assumes nothing.
use Rattle.std.proofs.Common.{refl}
use Rattle.sheet_reach.proofs.Laws.{reach_laws}
use Rattle.sheet_reach.proofs.theorems.reach_laws.Goals as goal

pub returns : goal.returns
returns c = (refl, reach_laws)
