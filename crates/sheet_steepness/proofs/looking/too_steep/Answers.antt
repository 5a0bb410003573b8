-- `sheet_steepness::looking::too_steep` meets its contract. Assumes nothing.
use Rattle.std.proofs.Common.{◌||◌}
use Rattle.sheet_slopes.specs.Slopes.{too_steep}
use Rattle.sheet_steepness.proofs.looking.too_steep.Goals as goal

pub returns : goal.returns
unfolding too_steep
returns c = λ i. c.steep.ensures i || c.steep-2.ensures i
