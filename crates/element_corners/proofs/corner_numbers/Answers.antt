-- `element_corners::corner_numbers` meets its contract. Assumes nothing.
use Rattle.std.proofs.Common.{List, [], ◌∷◌, ℕ, ℤ}
use Rattle.integers.specs.Within.{◌within◌}
use Rattle.element_sibson.specs.Piece.{Corner, left_top, right_top, left_bottom, right_bottom}
use Rattle.element_sibson.specs.Element.{corner_numbers}
use Rattle.element_cell.specs.Cell.{Side}
use Rattle.element_cell.specs.Corners.{corners, three, arrays, numbers_of, Measured}
use Rattle.element_corners.proofs.corner_numbers.Goals as goal

-- what the call for a corner requires
required : (n : List (List ℤ)) {w h : ℕ} → Measured (corners n) × Side w × Side h → (k : Corner) →
    ((corners n k).x_slope within 4095) × ((corners n k).y_slope within 4095) × Side w × Side h
required n r k = (r.0.x_slopes k, r.0.y_slopes k, r.1, r.2)

pub scaled-requires : goal.scaled-requires
unfolding corners
scaled-requires c = required c.args.nodes c.requires left_top

pub scaled-requires-2 : goal.scaled-requires-2
unfolding corners
scaled-requires-2 c = required c.args.nodes c.requires right_top

pub scaled-requires-3 : goal.scaled-requires-3
unfolding corners
scaled-requires-3 c = required c.args.nodes c.requires left_bottom

pub scaled-requires-4 : goal.scaled-requires-4
unfolding corners
scaled-requires-4 c = required c.args.nodes c.requires right_bottom

pub returns : goal.returns
unfolding corners three arrays numbers_of corner_numbers
returns c i = c.scaled.ensures i ∷ c.scaled-2.ensures i ∷ c.scaled-3.ensures i ∷ c.scaled-4.ensures i ∷ []
