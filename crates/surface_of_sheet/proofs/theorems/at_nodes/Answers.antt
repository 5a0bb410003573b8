-- `surface_of_sheet::theorems::at_nodes`: levels are below 2²⁰, and at nodes readings are the nodes' numbers. Assumes nothing.
use mathlib.Core.Path.{refl}
use Rattle.surface_of_sheet.proofs.AtNodes.{at_nodes}
use Rattle.surface_of_sheet.proofs.theorems.at_nodes.Goals as goal

pub returns : goal.returns
returns c = (refl, at_nodes)
