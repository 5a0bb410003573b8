-- `integers::theorems::floor_laws`: the laws of `floor_div` hold. Assumes nothing.
use Rattle.std.proofs.Common.{refl}
use Rattle.integers.proofs.Floors.{floor_laws}
use Rattle.integers.proofs.theorems.floor_laws.Goals as goal

pub returns : goal.returns
returns c = (refl, floor_laws)
