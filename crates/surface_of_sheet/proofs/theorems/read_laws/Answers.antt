-- `surface_of_sheet::theorems::read_laws`: which answer a reading returns. Assumes nothing.
use mathlib.Core.Path.{refl}
use Rattle.surface_of_sheet.proofs.Answered.{read_laws}
use Rattle.surface_of_sheet.proofs.theorems.read_laws.Goals as goal

pub returns : goal.returns
returns c = (refl, read_laws)
