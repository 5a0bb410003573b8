-- `light_sheet_demands::row_grows`: 02's #103 holds. Assumes nothing.
use mathlib.Core.Path.{refl}
use Rattle.light_sheet_demands.proofs.Growing.{row_grows}
use Rattle.light_sheet_demands.proofs.row_grows.Goals as goal

pub returns : goal.returns
returns c = (refl, row_grows)
