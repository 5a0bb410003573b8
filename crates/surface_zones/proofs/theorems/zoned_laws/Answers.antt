-- `surface_zones::theorems::zoned_laws` meets its contract. Assumes nothing.
use mathlib.Core.Path.{refl}
use Rattle.surface_zones.proofs.Laws.{zoned_laws}
use Rattle.surface_zones.proofs.theorems.zoned_laws.Goals as goal

pub returns : goal.returns
returns c = (refl, zoned_laws)
