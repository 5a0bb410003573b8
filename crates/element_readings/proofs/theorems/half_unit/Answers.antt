-- `element_readings::theorems::half_unit`: a reading lies within half a unit of the exact value. Assumes nothing.
use mathlib.Core.Path.{refl}
use Rattle.element_readings.proofs.Rounded.{half_unit}
use Rattle.element_readings.proofs.theorems.half_unit.Goals as goal

pub returns : goal.returns
returns c = (refl, half_unit)
