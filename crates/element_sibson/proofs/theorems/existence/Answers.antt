-- `element_sibson::theorems::existence`: the set we read from is the one with the corner numbers. Assumes nothing.
use mathlib.Core.Path.{refl}
use Rattle.element_sibson.proofs.Unique.{existence}
use Rattle.element_sibson.proofs.theorems.existence.Goals as goal

pub returns : goal.returns
returns c = (refl, existence)
