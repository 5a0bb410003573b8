-- A piece is told by the code's name of it. Assumes nothing.
use mathlib.Core.Path.{◌≡◌, refl}
use Rattle.element_sibson.specs.Piece.{Piece, top, right, bottom, left}
use Rattle.element_cell.specs.Pieces.{piece_of, named}

pub piece_back : (k : Piece) → piece_of (named k) ≡ k
unfolding piece_of named
piece_back top = refl
piece_back right = refl
piece_back bottom = refl
piece_back left = refl
