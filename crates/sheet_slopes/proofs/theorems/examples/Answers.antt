-- `sheet_slopes::theorems::examples` meets its contract. Assumes nothing.
use mathlib.Core.Path.{refl}
use Rattle.sheet_slopes.proofs.Examples.{examples}
use Rattle.sheet_slopes.proofs.theorems.examples.Goals as goal

pub returns : goal.returns
returns c = (refl, examples)
