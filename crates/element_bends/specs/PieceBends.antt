-- The bends at a pixel of a cell, from each piece that holds it: three numbers for a piece, none from the others. Assumes nothing.
use Rattle.std.specs.Prelude.{cond, ℤ}
use mathlib.Core.List.{List, [], ◌∷◌, flat_map}
use Rattle.element_sibson.specs.Piece.{Piece, top, right, bottom, left, triangle}
use Rattle.element_sibson.specs.Element.{CornerNumbers, sibson}
use Rattle.element_cell.specs.Cell.{pixel_cell, pixel_point}
use Rattle.element_cell.specs.declared.Pixel.{Pixel}
use Rattle.element_readings.specs.Reading.{bends_of}

-- from one piece: xx, xy, yy of its cubic, in 1/64 grain per pixel per pixel, where the piece holds the pixel, else none
unfoldable pub piece_bends : CornerNumbers → Pixel → Piece → List ℤ
piece_bends n p k = cond (triangle k (pixel_point p)) (bends_of (pixel_cell p) (sibson n k) (pixel_point p)) []

-- from each piece of the cell, by number
unfoldable pub cell_bends : CornerNumbers → Pixel → List ℤ
cell_bends n p = flat_map (piece_bends n p) (top ∷ right ∷ bottom ∷ left ∷ [])
