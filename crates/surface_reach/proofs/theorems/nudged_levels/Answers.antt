-- `surface_reach::theorems::nudged_levels`: a nudged height changes levels only about its node, and they follow it. Assumes nothing.
use mathlib.Core.Path.{refl}
use Rattle.surface_reach.proofs.Laws.{nudged_levels}
use Rattle.surface_reach.proofs.theorems.nudged_levels.Goals as goal

pub returns : goal.returns
returns c = (refl, nudged_levels)
