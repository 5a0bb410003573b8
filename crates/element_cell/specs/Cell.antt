-- The cells that the code takes, from 1 to 64 pixels wide and high, and how it holds a pixel of one. Assumes nothing.
use Rattle.std.specs.Prelude.{ℕ, zero, suc, ◌≤◌}
use Rattle.std.proofs.Common.{arith}
use Rattle.element_sibson.specs.Fraction.{Positive, positive}
use Rattle.element_sibson.specs.Cubic.{Cell, Point, pixel}

-- the width or height of a cell, from 1 to 64 pixels
pub record Side (l : ℕ) : Type 0 where
  pub least : 1 ≤ l
  pub most : l ≤ 64

-- as a number above 0; 0, which is no side, counts as 1
unfoldable pub side : ℕ → Positive
side zero = positive 1 tt
side (suc l) = record { number = suc l; above = omega arith }

-- the cell w pixels wide and h high
unfoldable pub cell : ℕ → ℕ → Cell
cell w h = record { W = side w; H = side h }

-- a pixel as clauses see it
pub record Pixel : Type 0 where
  pub a : ℕ
  pub b : ℕ
  pub width : ℕ
  pub height : ℕ

-- a pixel's cell, and its point there
abbrev pub pixel_cell : Pixel → Cell
pixel_cell p = cell p.width p.height

abbrev pub pixel_point : Pixel → Point
pixel_point p = pixel (pixel_cell p) p.a p.b

-- a pixel of its cell, the right and the bottom edge included
pub record PixelInCell (p : Pixel) : Type 0 where
  pub width : Side p.width
  pub height : Side p.height
  pub across : p.a ≤ p.width
  pub down : p.b ≤ p.height
