-- `integers::theorems::rounding_laws`: the laws of `round` hold. Assumes nothing.
use Rattle.std.proofs.Common.{refl}
use Rattle.integers.proofs.Rounding.{rounding_laws}
use Rattle.integers.proofs.theorems.rounding_laws.Goals as goal

pub returns : goal.returns
returns c = (refl, rounding_laws)
