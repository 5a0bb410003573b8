-- What the code asks of a row of pixels. Assumes nothing.
use Rattle.std.specs.Prelude.{ℕ, suc, ◌+◌, ◌≤◌}
use Rattle.element_cell.specs.Cell.{PixelInCell}
use Rattle.element_cell.specs.declared.Pixel.{Pixel}

-- a pixel of its cell, and count pixels from it on that lie in the cell, the right edge included
pub record FitsCell (p : Pixel) (count : ℕ) : Type 0 where
  pub inside : PixelInCell p
  pub fits : p.a + count ≤ suc p.width
