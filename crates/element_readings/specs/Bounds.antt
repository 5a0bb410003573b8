-- How large the readings of a piece are. Assumes nothing.
use Rattle.std.specs.Prelude.{ℕ, ◌*◌, ◌^◌, ◌≤◌, ◌<◌, T, pos, nat_abs}
use Rattle.element_sibson.specs.Fraction.{positive, whole, ◌÷◌}
use Rattle.element_sibson.specs.Cubic.{Cell, Point, pixel, value}
use Rattle.element_sibson.specs.Piece.{Piece, InCell, triangle, piece_at}
use Rattle.element_sibson.specs.Element.{CornerNumbers, sibson}
use Rattle.element_cell.specs.Corners.{largest, AllWithin}
use Rattle.element_readings.specs.Reading.{◌withinℚ◌, level_of, tilt_x_of, tilt_y_of, bend_xx_of, bend_xy_of, bend_yy_of}

-- a point of a piece
pub record On (k : Piece) (P : Point) : Type 0 where
  pub in_cell : InCell P
  pub in_triangle : T (triangle k P)

-- of corner numbers within N, any cell and all four pieces
pub record Bounds : Type 0 where
  -- every pixel of a cell, its edges included, is a point of the piece that it is read from
  pub pixels : (C : Cell) (a b : ℕ) → a ≤ C.W.number → b ≤ C.H.number → On (piece_at (pixel C a b)) (pixel C a b)
  -- at every point of a piece the height is within 3/2 N
  pub heights : (n : CornerNumbers) (N : ℕ) → AllWithin N n → (k : Piece) (P : Point) → On k P →
      value (sibson n k) P withinℚ whole (pos (3 * N)) ÷ positive 2 tt
  -- so a level lies strictly between −2²⁰ and 2²⁰
  pub levels : (C : Cell) (n : CornerNumbers) → AllWithin largest n → (k : Piece) (P : Point) → On k P → nat_abs (level_of C (sibson n k) P) < 2 ^ 20
  -- tilts and bends are far below 2⁵³, so they are exact as 64-bit floats
  pub tilts_x : (C : Cell) (n : CornerNumbers) → AllWithin largest n → (k : Piece) (P : Point) → InCell P → nat_abs (tilt_x_of C (sibson n k) P) < 2 ^ 27
  pub tilts_y : (C : Cell) (n : CornerNumbers) → AllWithin largest n → (k : Piece) (P : Point) → InCell P → nat_abs (tilt_y_of C (sibson n k) P) < 2 ^ 27
  pub bends_xx : (C : Cell) (n : CornerNumbers) → AllWithin largest n → (k : Piece) (P : Point) → InCell P → nat_abs (bend_xx_of C (sibson n k) P) < 2 ^ 34
  pub bends_xy : (C : Cell) (n : CornerNumbers) → AllWithin largest n → (k : Piece) (P : Point) → InCell P → nat_abs (bend_xy_of C (sibson n k) P) < 2 ^ 34
  pub bends_yy : (C : Cell) (n : CornerNumbers) → AllWithin largest n → (k : Piece) (P : Point) → InCell P → nat_abs (bend_yy_of C (sibson n k) P) < 2 ^ 34
