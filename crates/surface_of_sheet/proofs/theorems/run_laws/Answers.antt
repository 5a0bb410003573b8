-- `surface_of_sheet::theorems::run_laws`: what a run leaves in the row. Assumes nothing.
use mathlib.Core.Path.{refl}
use Rattle.surface_of_sheet.proofs.Runs.{run_laws}
use Rattle.surface_of_sheet.proofs.theorems.run_laws.Goals as goal

pub returns : goal.returns
returns c = (refl, run_laws)
