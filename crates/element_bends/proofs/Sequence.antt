-- The pieces in the order in which their bends are stored. Assumes nothing.
use Rattle.std.specs.Prelude.{List, [], ◌∷◌}
use Rattle.element_cell.specs.declared.Piece.{Piece}
use Rattle.element_cell.specs.declared.Piece.TheVariants.{Top, Right, Bottom, Left}

abbrev pub sequence : List Piece
sequence = Top ∷ Right ∷ Bottom ∷ Left ∷ []
