-- How the code names the four pieces of a cell. Assumes nothing.
use Rattle.element_sibson.specs.Piece.{Piece, top, right, bottom, left}
use Rattle.element_cell.specs.declared.Piece as held

-- pieces 0 to 3, as the code names them
unfoldable pub piece_of : held.Piece → Piece
piece_of held.TheVariants.Top = top
piece_of held.TheVariants.Right = right
piece_of held.TheVariants.Bottom = bottom
piece_of held.TheVariants.Left = left

-- and back
unfoldable pub named : Piece → held.Piece
named top = held.TheVariants.Top
named right = held.TheVariants.Right
named bottom = held.TheVariants.Bottom
named left = held.TheVariants.Left
