-- `element_corners::exchanged` meets its contract. Assumes nothing.
use Rattle.std.proofs.Common.{[], ◌∷◌}
use Rattle.element_sibson.specs.Element.{exchanged}
use Rattle.element_cell.specs.Corners.{corners, arrays}
use Rattle.element_corners.proofs.exchanged.Goals as goal

pub returns : goal.returns
unfolding corners arrays exchanged
returns c i = c.swap.ensures i ∷ c.swap-2.ensures i ∷ c.swap-3.ensures i ∷ c.swap-4.ensures i ∷ []
