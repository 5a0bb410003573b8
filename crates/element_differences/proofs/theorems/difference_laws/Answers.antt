-- `element_differences::theorems::difference_laws`: a step leads to the differences of the next offset. Assumes nothing.
use mathlib.Core.Path.{refl}
use Rattle.element_differences.proofs.Rises.{difference_laws}
use Rattle.element_differences.proofs.theorems.difference_laws.Goals as goal

pub returns : goal.returns
returns c = (refl, difference_laws)
