-- `light_sheet_demands::demand_three`: demand three holds. Assumes nothing.
use mathlib.Core.Path.{refl}
use Rattle.light_sheet_demands.proofs.DemandThree.{demand_three}
use Rattle.light_sheet_demands.proofs.demand_three.Goals as goal

pub returns : goal.returns
returns c = (refl, demand_three)
