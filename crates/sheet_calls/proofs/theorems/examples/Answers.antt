-- `sheet_calls::theorems::examples` meets its contract. Assumes nothing.
use mathlib.Core.Path.{refl}
use Rattle.sheet_calls.proofs.Examples.{examples}
use Rattle.sheet_calls.proofs.theorems.examples.Goals as goal

pub returns : goal.returns
returns c = (refl, examples)
