-- `integers::theorems::rounded_sums`: the rounding of a sum is at most 1 from the sum of the roundings. Assumes nothing.
use Rattle.std.proofs.Common.{refl}
use Rattle.integers.proofs.RoundedSums.{rounded_sums}
use Rattle.integers.proofs.theorems.rounded_sums.Goals as goal

pub returns : goal.returns
returns c = (refl, rounded_sums)
