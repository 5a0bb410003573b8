-- `light_sheet_demands::both_sides`: 02's #102 holds. Assumes nothing.
use mathlib.Core.Path.{refl}
use Rattle.light_sheet_demands.proofs.Bends.{both_sides}
use Rattle.light_sheet_demands.proofs.both_sides.Goals as goal

pub returns : goal.returns
returns c = (refl, both_sides)
