-- A row of pixels in one cell: the level at each, and where its spans end, one for each piece that it crosses. Assumes nothing.
use Rattle.std.specs.Prelude.{ℕ, suc, ◌+◌, ◌*◌, ◌-◌, ◌/◌, ◌≤◌, ◌<◌, min, ◌≡◌, ℤ}
use Rattle.element_sibson.specs.Piece.{Piece, top, right, bottom, left, piece_at}
use Rattle.element_sibson.specs.Element.{CornerNumbers, sibson}
use Rattle.element_cell.specs.Cell.{pixel_cell, pixel_point, PixelInCell}
use Rattle.element_cell.specs.declared.Pixel.{Pixel}
use Rattle.element_readings.specs.Reading.{level_of}

-- the pixel k to the right
abbrev pub to_right : Pixel → ℕ → Pixel
to_right p k = record { a = p.a + k; b = p.b; width = p.width; height = p.height }

-- the piece of a pixel, and the level there of the set we read from with these corner numbers
abbrev pub pixel_piece : Pixel → Piece
pixel_piece p = piece_at (pixel_point p)

unfoldable pub cell_level : CornerNumbers → Pixel → ℤ
cell_level n p = level_of (pixel_cell p) (sibson n (pixel_piece p)) (pixel_point p)

-- n / d, rounded up
unfoldable pub ceiling : ℕ → ℕ → ℕ
ceiling n d = (n + d - 1) / d

-- the first offset beyond a piece, in the row of a pixel: left and bottom end where the row meets a diagonal, whose pixel is of the next piece, with a lower
-- number; the top one ends behind that pixel; the right one ends with the cell, whose right edge counts
unfoldable pub end_of : Piece → Pixel → ℕ
end_of top p = suc ((p.width * p.height - p.b * p.width) / p.height)
end_of right p = suc p.width
end_of bottom p = ceiling (p.b * p.width) p.height
end_of left p = ceiling (min (p.b * p.width) (p.width * p.height - p.b * p.width)) p.height

-- a pixel's piece holds the pixels of the cell to its right that lie before that end, and none from there on; the end is no further than the cell's
pub record SpanLaws : Type 0 where
  pub starts : (p : Pixel) → PixelInCell p → p.a < end_of (pixel_piece p) p
  pub within : (p : Pixel) → PixelInCell p → end_of (pixel_piece p) p ≤ suc p.width
  pub same : (p : Pixel) (k : ℕ) → PixelInCell (to_right p k) → p.a + k < end_of (pixel_piece p) p → pixel_piece (to_right p k) ≡ pixel_piece p
  pub beyond : (p : Pixel) (k : ℕ) → PixelInCell (to_right p k) → end_of (pixel_piece p) p ≤ p.a + k → ¬ (pixel_piece (to_right p k) ≡ pixel_piece p)
  -- no row has pixels of top and of bottom, so it has three spans at most
  pub top_only : (p : Pixel) (k : ℕ) → PixelInCell (to_right p k) → pixel_piece p ≡ top → ¬ (pixel_piece (to_right p k) ≡ bottom)
  pub bottom_only : (p : Pixel) (k : ℕ) → PixelInCell (to_right p k) → pixel_piece p ≡ bottom → ¬ (pixel_piece (to_right p k) ≡ top)
