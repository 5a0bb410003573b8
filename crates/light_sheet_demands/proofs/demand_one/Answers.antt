-- `light_sheet_demands::demand_one`: demand one holds. Assumes nothing.
use mathlib.Core.Path.{refl}
use Rattle.light_sheet_demands.proofs.DemandOne.{demand_one}
use Rattle.light_sheet_demands.proofs.demand_one.Goals as goal

pub returns : goal.returns
returns c = (refl, demand_one)
