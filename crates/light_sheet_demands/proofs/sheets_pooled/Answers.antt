-- `light_sheet_demands::sheets_pooled`: 02's #104 holds. Assumes nothing.
use mathlib.Core.Path.{refl}
use Rattle.light_sheet_demands.proofs.Pooling.{sheets_pooled}
use Rattle.light_sheet_demands.proofs.sheets_pooled.Goals as goal

pub returns : goal.returns
returns c = (refl, sheets_pooled)
