-- `light_sheet_demands::slope_filling`: 02's #101 holds. Assumes nothing.
use mathlib.Core.Path.{refl}
use Rattle.light_sheet_demands.proofs.Slopes.{slope_filling}
use Rattle.light_sheet_demands.proofs.slope_filling.Goals as goal

pub returns : goal.returns
returns c = (refl, slope_filling)
