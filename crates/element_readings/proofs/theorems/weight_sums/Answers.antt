-- `element_readings::theorems::weight_sums`: the weights of the pieces, written out. Assumes nothing.
use mathlib.Core.Path.{refl}
use Rattle.element_readings.proofs.WeightSums.{weight_sums}
use Rattle.element_readings.proofs.theorems.weight_sums.Goals as goal

pub returns : goal.returns
returns c = (refl, weight_sums)
