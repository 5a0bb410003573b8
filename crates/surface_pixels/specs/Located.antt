-- How the code holds the cubic that a pixel is read from. Assumes nothing.
use Rattle.std.specs.Prelude.{ℕ, List, ℤ}
use Rattle.element_sibson.specs.Cubic.{Cell, Cubic, Point}
use Rattle.element_cell.specs.Cell.{pixel_cell, pixel_point}
use Rattle.element_cell.specs.Coefficients.{listed, halves}
use Rattle.surface_of_sheet.specs.Place.{Place}
use Rattle.surface_of_sheet.specs.Surface.{cubic_at}
use Rattle.surface_places.specs.Found.{holding}
use Rattle.surface_pixels.specs.declared.LocatedCubic.{LocatedCubic}

-- at a place: the doubled coefficients of its cubic, and the pixel in its cell
unfoldable pub located : List ℕ → Place → LocatedCubic
located s p = record { coefficients = listed (cubic_at s p); pixel = (holding s p).pixel }

-- a reading of it
abbrev pub on : (Cell → Cubic → Point → ℤ) → LocatedCubic → ℤ
on f c = f (pixel_cell c.pixel) (halves c.coefficients) (pixel_point c.pixel)
