-- Where the row of a pixel leaves the pieces that it crosses, as the code holds it. Assumes nothing.
use Rattle.std.specs.Prelude.{◌*◌, Bool, cond, leb}
use Rattle.element_sibson.specs.Piece.{Piece, top, bottom, left}
use Rattle.element_cell.specs.declared.Pixel.{Pixel}
use Rattle.element_spans.specs.declared.Ends.{Ends}
use Rattle.element_spans.specs.Span.{end_of}

-- whether the row lies in the upper half of the cell, its middle row counted
unfoldable pub upper_half : Pixel → Bool
upper_half p = leb (2 * p.b) p.height

-- the piece between left and right: top in the upper half, and bottom in the lower
unfoldable pub middle_of : Pixel → Piece
middle_of p = cond (upper_half p) top bottom

unfoldable pub ends_of : Pixel → Ends
ends_of p = record { left = end_of left p; middle = end_of (middle_of p) p; upper = upper_half p }
