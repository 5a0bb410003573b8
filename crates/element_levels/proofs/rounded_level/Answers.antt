-- `element_levels::rounded_level` meets its contract. Assumes nothing.
use Rattle.std.proofs.Common.{w64}
use Rattle.std.proofs.lemmas.Int.{to_z-of_z}
use Rattle.integers.proofs.Prepared.{rounded_in_reach}
use Rattle.element_levels.proofs.rounded_level.Goals as goal

pub round_small-requires : goal.round_small-requires
round_small-requires c = rw (to_z-of_z w64 c.args.n c.ranges.n) (rounded_in_reach c.requires.prepared c.requires.small)
