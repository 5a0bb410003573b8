-- `program_listing::theorems::examples`: the examples hold. Assumes nothing.
use mathlib.Core.Path.{refl}
use Rattle.program_listing.proofs.Worked.{examples}
use Rattle.program_listing.proofs.theorems.examples.Goals as goal

pub returns : goal.returns
returns c = (refl, examples)
