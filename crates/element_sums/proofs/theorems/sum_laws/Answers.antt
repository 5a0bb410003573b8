-- `element_sums::theorems::sum_laws`: corner numbers, cubics and readings add up. Assumes nothing.
use mathlib.Core.Path.{refl}
use Rattle.element_sums.proofs.Sums.{sum_laws}
use Rattle.element_sums.proofs.theorems.sum_laws.Goals as goal

pub returns : goal.returns
returns c = (refl, sum_laws)
