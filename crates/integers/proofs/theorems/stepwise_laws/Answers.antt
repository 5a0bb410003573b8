-- `integers::theorems::stepwise_laws`: the laws of `steps` hold. Assumes nothing.
use Rattle.std.proofs.Common.{refl}
use Rattle.integers.proofs.Stepwise.{stepwise_laws}
use Rattle.integers.proofs.theorems.stepwise_laws.Goals as goal

pub returns : goal.returns
returns c = (refl, stepwise_laws)
