-- `sheet_layout::theorems::neighbour_laws` meets its contract. Assumes nothing.
use Rattle.std.proofs.Common.{refl}
use Rattle.sheet_layout.proofs.NeighbourLaws.{neighbour_laws}
use Rattle.sheet_layout.proofs.theorems.neighbour_laws.Goals as goal

pub returns : goal.returns
returns c = (refl, neighbour_laws)
