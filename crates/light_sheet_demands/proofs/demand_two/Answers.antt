-- `light_sheet_demands::demand_two`: demand two holds. Assumes nothing.
use mathlib.Core.Path.{refl}
use Rattle.light_sheet_demands.proofs.DemandTwo.{demand_two}
use Rattle.light_sheet_demands.proofs.demand_two.Goals as goal

pub returns : goal.returns
returns c = (refl, demand_two)
