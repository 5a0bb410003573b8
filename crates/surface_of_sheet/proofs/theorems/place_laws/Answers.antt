-- `surface_of_sheet::theorems::place_laws`: the place of a pixel is the one that 01 says. Assumes nothing.
use mathlib.Core.Path.{refl}
use Rattle.surface_of_sheet.proofs.Places.{place_laws}
use Rattle.surface_of_sheet.proofs.theorems.place_laws.Goals as goal

pub returns : goal.returns
returns c = (refl, place_laws)
