-- `sheet_zones::theorems::list_laws` meets its contract. Assumes nothing.
use mathlib.Core.Path.{refl}
use Rattle.sheet_zones.proofs.Laws.{list_laws}
use Rattle.sheet_zones.proofs.theorems.list_laws.Goals as goal

pub returns : goal.returns
returns c = (refl, list_laws)
