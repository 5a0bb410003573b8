-- `sheet_zones::theorems::limit_laws` meets its contract. Assumes nothing.
use mathlib.Core.Path.{refl}
use Rattle.sheet_zones.proofs.Laws.{limit_laws}
use Rattle.sheet_zones.proofs.theorems.limit_laws.Goals as goal

pub returns : goal.returns
returns c = (refl, limit_laws)
