-- `element_readings::theorems::bounds`: how large the readings are. Assumes nothing.
use mathlib.Core.Path.{refl}
use Rattle.element_readings.proofs.Bounds.{bounds}
use Rattle.element_readings.proofs.theorems.bounds.Goals as goal

pub returns : goal.returns
returns c = (refl, bounds)
