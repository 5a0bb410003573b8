-- `surface_of_sheet::theorems::shared_edges`: cells that share an edge agree along it. Assumes nothing.
use mathlib.Core.Path.{refl}
use Rattle.surface_of_sheet.proofs.Sets.{shared_edges}
use Rattle.surface_of_sheet.proofs.theorems.shared_edges.Goals as goal

pub returns : goal.returns
returns c = (refl, shared_edges)
