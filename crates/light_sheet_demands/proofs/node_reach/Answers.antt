-- `light_sheet_demands::node_reach`: 02's #105 holds. Assumes nothing.
use mathlib.Core.Path.{refl}
use Rattle.light_sheet_demands.proofs.Reach.{node_reach}
use Rattle.light_sheet_demands.proofs.node_reach.Goals as goal

pub returns : goal.returns
returns c = (refl, node_reach)
