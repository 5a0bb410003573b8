-- `surface_of_sheet::theorems::mesh_laws`: sheets on the same lines have the same cells. Assumes nothing.
use mathlib.Core.Path.{refl}
use Rattle.surface_of_sheet.proofs.SameCells.{mesh_laws}
use Rattle.surface_of_sheet.proofs.theorems.mesh_laws.Goals as goal

pub returns : goal.returns
returns c = (refl, mesh_laws)
