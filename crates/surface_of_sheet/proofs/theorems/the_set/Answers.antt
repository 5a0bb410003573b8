-- `surface_of_sheet::theorems::the_set`: in each cell the set we read from is the one that fits its nodes. Assumes nothing.
use mathlib.Core.Path.{refl}
use Rattle.surface_of_sheet.proofs.Sets.{the_set}
use Rattle.surface_of_sheet.proofs.theorems.the_set.Goals as goal

pub returns : goal.returns
returns c = (refl, the_set)
