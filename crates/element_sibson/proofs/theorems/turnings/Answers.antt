-- `element_sibson::theorems::turnings`: turned cubics are the cubics at turned points. Assumes nothing.
use mathlib.Core.Path.{refl}
use Rattle.element_sibson.proofs.Turnings.{turnings}
use Rattle.element_sibson.proofs.theorems.turnings.Goals as goal

pub returns : goal.returns
returns c = (refl, turnings)
