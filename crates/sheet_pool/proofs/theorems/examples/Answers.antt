-- `sheet_pool::theorems::examples` meets its contract. Assumes nothing.
use mathlib.Core.Path.{refl}
use Rattle.sheet_pool.proofs.Examples.{examples}
use Rattle.sheet_pool.proofs.theorems.examples.Goals as goal

pub returns : goal.returns
returns c = (refl, examples)
