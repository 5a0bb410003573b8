-- `element_sibson::theorems::edges`: two cells that share an edge agree along it. Assumes nothing.
use mathlib.Core.Path.{refl}
use Rattle.element_sibson.proofs.SharedEdges.{edges}
use Rattle.element_sibson.proofs.theorems.edges.Goals as goal

pub returns : goal.returns
returns c = (refl, edges)
