-- `sheet_slopes::theorems::slope_laws` meets its contract. Assumes nothing.
use mathlib.Core.Path.{refl}
use Rattle.sheet_slopes.proofs.Laws.{slope_laws}
use Rattle.sheet_slopes.proofs.theorems.slope_laws.Goals as goal

pub returns : goal.returns
returns c = (refl, slope_laws)
