-- `surface_of_sheet::theorems::half_units`: a reading returns whole numbers over its divisor, within half a unit of the exact values. Assumes nothing.
use mathlib.Core.Path.{refl}
use Rattle.surface_of_sheet.proofs.HalfUnits.{half_units}
use Rattle.surface_of_sheet.proofs.theorems.half_units.Goals as goal

pub returns : goal.returns
returns c = (refl, half_units)
