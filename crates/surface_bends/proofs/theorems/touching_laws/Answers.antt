-- `surface_bends::theorems::touching_laws` meets its contract. Assumes nothing.
use mathlib.Core.Path.{refl}
use Rattle.surface_bends.proofs.Laws.{touching_laws}
use Rattle.surface_bends.proofs.theorems.touching_laws.Goals as goal

pub returns : goal.returns
returns c = (refl, touching_laws)
