-- `element_sibson::theorems::covering`: the pieces cover the cell and meet on the half diagonals. Assumes nothing.
use mathlib.Core.Path.{refl}
use Rattle.element_sibson.proofs.Covers.{covering}
use Rattle.element_sibson.proofs.theorems.covering.Goals as goal

pub returns : goal.returns
returns c = (refl, covering)
