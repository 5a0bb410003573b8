-- `sheet_assembly::theorems::assembly_laws` meets its contract. Assumes nothing.
use mathlib.Core.Path.{refl}
use Rattle.sheet_assembly.proofs.Assembled.{assembly_laws}
use Rattle.sheet_assembly.proofs.theorems.assembly_laws.Goals as goal

pub returns : goal.returns
returns c = (refl, assembly_laws)
