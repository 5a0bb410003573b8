-- `sheet_zoning::Clamp::clamp_level` meets its contract. Assumes nothing.
use Rattle.std.proofs.Common.{arith}
use Rattle.std.proofs.lemmas.Int.{to_z-of_z}
use Rattle.sheet_zoning.specs.Clamps.{clamped}
use Rattle.sheet_zoning.proofs.Levels.{raised-max, lowered-min}
use Rattle.sheet_zoning.proofs.Clamp.clamp_level.Goals as goal

pub returns : goal.returns
unfolding clamped
returns c = grind (arith, to_z-of_z, raised-max, lowered-min)
