-- `element_needed::theorems::needed`: no edge condition, and no two half diagonals, can be spared. Assumes nothing.
use mathlib.Core.Path.{refl}
use Rattle.element_needed.proofs.Counterexamples.{needed}
use Rattle.element_needed.proofs.theorems.needed.Goals as goal

pub returns : goal.returns
returns c = (refl, needed)
