-- `sheet_zoning::zone::Zone::limited_by` meets its contract. Assumes nothing.
use Rattle.std.proofs.Common.{arith}
use Rattle.std.proofs.lemmas.Int.{to_z-of_z}
use Rattle.sheet_zoning.proofs.Levels.{raised-max, lowered-min}
use Rattle.sheet_zoning.proofs.zone.Zone.limited_by.Goals as goal

pub returns : goal.returns
returns c = grind (arith, to_z-of_z, raised-max, lowered-min)
