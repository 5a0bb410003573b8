-- `surface_of_sheet::theorems::examples`: the examples hold. Assumes nothing.
use mathlib.Core.Path.{refl}
use Rattle.surface_of_sheet.proofs.Worked.{examples}
use Rattle.surface_of_sheet.proofs.theorems.examples.Goals as goal

pub returns : goal.returns
returns c = (refl, examples)
