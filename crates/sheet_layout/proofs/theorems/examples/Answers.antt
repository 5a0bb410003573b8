-- `sheet_layout::theorems::examples` meets its contract. Assumes nothing.
use Rattle.std.proofs.Common.{refl}
use Rattle.sheet_layout.proofs.Examples.{examples}
use Rattle.sheet_layout.proofs.theorems.examples.Goals as goal

pub returns : goal.returns
returns c = (refl, examples)
