-- `element_readings::theorems::corner_weights`: what a corner's height weighs. Assumes nothing.
use mathlib.Core.Path.{refl}
use Rattle.element_readings.proofs.CornerWeights.{corner_weights}
use Rattle.element_readings.proofs.theorems.corner_weights.Goals as goal

pub returns : goal.returns
returns c = (refl, corner_weights)
