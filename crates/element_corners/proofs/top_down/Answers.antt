-- `element_corners::top_down` meets its contract. Assumes nothing.
use Rattle.std.proofs.Common.{[], ◌∷◌}
use Rattle.element_sibson.specs.Piece.{left_top, right_top, left_bottom, right_bottom}
use Rattle.element_sibson.specs.Element.{top_down}
use Rattle.element_cell.specs.Corners.{corners, arrays}
use Rattle.element_corners.proofs.top_down.Goals as goal

pub negate_y-requires : goal.negate_y-requires
unfolding corners
negate_y-requires c = c.requires.y_slopes left_bottom

pub negate_y-requires-2 : goal.negate_y-requires-2
unfolding corners
negate_y-requires-2 c = c.requires.y_slopes right_bottom

pub negate_y-requires-3 : goal.negate_y-requires-3
unfolding corners
negate_y-requires-3 c = c.requires.y_slopes left_top

pub negate_y-requires-4 : goal.negate_y-requires-4
unfolding corners
negate_y-requires-4 c = c.requires.y_slopes right_top

pub returns : goal.returns
unfolding corners arrays top_down
returns c i = c.negate_y.ensures i ∷ c.negate_y-2.ensures i ∷ c.negate_y-3.ensures i ∷ c.negate_y-4.ensures i ∷ []
