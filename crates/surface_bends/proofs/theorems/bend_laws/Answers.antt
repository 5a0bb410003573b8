-- `surface_bends::theorems::bend_laws` meets its contract. Assumes nothing.
use mathlib.Core.Path.{refl}
use Rattle.surface_bends.proofs.Laws.{bend_laws}
use Rattle.surface_bends.proofs.theorems.bend_laws.Goals as goal

pub returns : goal.returns
returns c = (refl, bend_laws)
