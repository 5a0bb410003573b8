-- `element_reach::theorems::nudge_laws`: a level goes with the height of a corner. Assumes nothing.
use mathlib.Core.Path.{refl}
use Rattle.element_reach.proofs.Nudge.{nudge_laws}
use Rattle.element_reach.proofs.theorems.nudge_laws.Goals as goal

pub returns : goal.returns
returns c = (refl, nudge_laws)
