-- `surface_of_sheet::theorems::cell_laws`: the place of a pixel is the one that 01 says. Assumes nothing.
use mathlib.Core.Path.{refl}
use Rattle.surface_of_sheet.proofs.CellsAlong.{cell_laws}
use Rattle.surface_of_sheet.proofs.theorems.cell_laws.Goals as goal

pub returns : goal.returns
returns c = (refl, cell_laws)
