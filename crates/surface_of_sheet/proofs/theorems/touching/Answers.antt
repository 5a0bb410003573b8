-- `surface_of_sheet::theorems::touching`: level and tilt are the same from every place of a pixel, the bend is not. Assumes nothing.
use mathlib.Core.Path.{refl}
use Rattle.surface_of_sheet.proofs.Touching.{touching}
use Rattle.surface_of_sheet.proofs.theorems.touching.Goals as goal

pub returns : goal.returns
returns c = (refl, touching)
