-- `surface_pool::theorems::examples` meets its contract. Assumes nothing.
use mathlib.Core.Path.{refl}
use Rattle.surface_pool.proofs.Examples.{examples}
use Rattle.surface_pool.proofs.theorems.examples.Goals as goal

pub returns : goal.returns
returns c = (refl, examples)
