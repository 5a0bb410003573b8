-- The library's greater and smaller of two levels raise and lower. Assumes nothing.
use Rattle.std.proofs.Common.{◌≡◌, ℤ, arith}
use Rattle.std.specs.Int.{int_max, int_min}
use Rattle.std.proofs.lemmas.Int.{ints}
use Rattle.sheet_zones.specs.Zones.{raised, lowered}

pub raised-max : (limit level : ℤ) → int_max level limit ≡ raised limit level
unfolding raised
raised-max limit level = grind (arith, ints)

pub lowered-min : (limit level : ℤ) → int_min level limit ≡ lowered limit level
unfolding lowered
lowered-min limit level = grind (arith, ints)
