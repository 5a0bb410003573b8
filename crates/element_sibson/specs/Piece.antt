-- The four pieces of a cell (the triangles of the Sibson split), their half diagonals, edges and corners. Assumes nothing.
use Rattle.std.specs.Prelude.{Bool, ◌&&◌, cond, ℕ, pos}
use Rattle.element_sibson.specs.Fraction.{ℚ, ◌≈◌, ◌≤ℚ◌, leℚ, whole, half, complement}
use Rattle.element_sibson.specs.Cubic.{Point, Cubic}

-- pieces 0 to 3: each lies on the cell's edge that it is named for (the source draws r downwards and s to the right, so its figure is this one transposed)
pub data Piece : Type 0 where
  top : Piece
  right : Piece
  bottom : Piece
  left : Piece

unfoldable pub number : Piece → ℕ
number top = 0
number right = 1
number bottom = 2
number left = 3

-- the piece after 0 is 1, after 1 is 2, after 2 is 3, after 3 is 0
unfoldable pub next : Piece → Piece
next top = right
next right = bottom
next bottom = left
next left = top

-- a set of four cubics, one for each piece
abbrev pub FourCubics : Type 0
FourCubics = Piece → Cubic

-- a point of the cell
pub record InCell (P : Point) : Type 0 where
  pub from_left : whole (pos 0) ≤ℚ P.r
  pub to_right : P.r ≤ℚ whole (pos 1)
  pub from_top : whole (pos 0) ≤ℚ P.s
  pub to_bottom : P.s ≤ℚ whole (pos 1)

-- is a point in a piece? Borders count. The bounds are 01's: "Piece 0 has s ≤ r and s ≤ 1−r" and so on; piece 3, there "the rest", has its borders here.
-- By itself this is a wedge between the two diagonals, which also reaches outside the cell: the cell's own bounds are those of `InCell`, or of a pixel's
-- offsets in its cell, a ≤ W and b ≤ H
abbrev pub triangle : Piece → Point → Bool
triangle top P = leℚ P.s P.r && leℚ P.s (complement P.r)
triangle right P = leℚ P.s P.r && leℚ (complement P.s) P.r
triangle bottom P = leℚ P.r P.s && leℚ (complement P.r) P.s
triangle left P = leℚ P.r P.s && leℚ P.r (complement P.s)

-- the piece that a point belongs to: on a diagonal the lowest number holds
abbrev pub piece_at : Point → Piece
piece_at P = cond (triangle top P) top (cond (triangle right P) right (cond (triangle bottom P) bottom left))

-- the half diagonal between a piece and the next: from the corner that both touch to the centre. The source has its line: in (7) for pieces 0 and 1, (6) for 1
-- and 2, (8) for 2 and 3, (5) for 3 and 0
unfoldable pub HalfDiagonal : Piece → Point → Type 0
HalfDiagonal top P = (P.r ≈ complement P.s) × (whole (pos 0) ≤ℚ P.s) × (P.s ≤ℚ half)
HalfDiagonal right P = (P.r ≈ P.s) × (half ≤ℚ P.s) × (P.s ≤ℚ whole (pos 1))
HalfDiagonal bottom P = (P.r ≈ complement P.s) × (half ≤ℚ P.s) × (P.s ≤ℚ whole (pos 1))
HalfDiagonal left P = (P.r ≈ P.s) × (whole (pos 0) ≤ℚ P.s) × (P.s ≤ℚ half)

-- the point t of the way along a piece's edge, from the left or from the top
abbrev pub edge : Piece → ℚ → Point
edge top t = record { r = t; s = whole (pos 0) }
edge right t = record { r = whole (pos 1); s = t }
edge bottom t = record { r = t; s = whole (pos 1) }
edge left t = record { r = whole (pos 0); s = t }

-- corners 00, 10, 01 and 11
pub data Corner : Type 0 where
  left_top : Corner
  right_top : Corner
  left_bottom : Corner
  right_bottom : Corner

abbrev pub at : Corner → Point
at left_top = record { r = whole (pos 0); s = whole (pos 0) }
at right_top = record { r = whole (pos 1); s = whole (pos 0) }
at left_bottom = record { r = whole (pos 0); s = whole (pos 1) }
at right_bottom = record { r = whole (pos 1); s = whole (pos 1) }
