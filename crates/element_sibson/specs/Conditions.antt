-- The conditions of NISTIR 6718, section 2, (3) to (8), on a set of four cubics over a cell, and when two sets are equal. Assumes nothing.
use Rattle.std.specs.Prelude.{◌≡◌, T, ℤ, pos, ◌+ℤ◌, ◌*ℤ◌}
use Rattle.element_sibson.specs.Cubic.{Cell, Point, Cubic, ◌≅◌, by_r, by_s, jet, ◌≋◌}
use Rattle.element_sibson.specs.Piece.{Piece, top, right, bottom, left, next, FourCubics, triangle, HalfDiagonal, Corner, at}

-- the coefficient of r² along the line s = k, and of s² along the line r = k
unfoldable pub square_in_r : Cubic → ℤ → ℤ
square_in_r g k = g.c20 +ℤ g.c21 *ℤ k

unfoldable pub square_in_s : Cubic → ℤ → ℤ
square_in_s g k = g.c02 +ℤ g.c12 *ℤ k

-- the square term of the cross-edge slope along a piece's edge, times the divisor and the cell's size across it: that of the derivative by s along top and
-- bottom, of that by r along right and left: the four derivatives of (4), in its order
unfoldable pub square_term : Piece → Cubic → ℤ
square_term top f = square_in_r (by_s f) (pos 0)
square_term right f = square_in_s (by_r f) (pos 1)
square_term bottom f = square_in_r (by_s f) (pos 1)
square_term left f = square_in_s (by_r f) (pos 0)

-- pieces 0 and 1, 1 and 2, 2 and 3, 3 and 0 have the same height, x-slope and y-slope at every point of the half diagonal between them: (7), (6), (8) and (5),
-- which ask it along the whole line
unfoldable pub Smooth : Cell → FourCubics → Type 0
Smooth C S = (k : Piece) (P : Point) → HalfDiagonal k P → jet C (S k) P ≋ jet C (S (next k)) P

-- the conditions on a set: smooth across the half diagonals, (5) to (8), and no square term of the cross-edge slope along the four edges, (4): linear there
pub record Meets (C : Cell) (S : FourCubics) : Type 0 where
  pub smooth : Smooth C S
  pub linear : (k : Piece) → square_term k (S k) ≡ pos 0

-- the same height, x-slope and y-slope at the four corners: both pieces that touch a corner count. (3) asks the same of the two pieces of one set there, which
-- `smooth` has, since a corner ends a half diagonal; here two sets are compared
unfoldable pub SameCorners : Cell → FourCubics → FourCubics → Type 0
SameCorners C S S' = (k : Piece) (c : Corner) → T (triangle k (at c)) → jet C (S k) (at c) ≋ jet C (S' k) (at c)

-- equal sets: equal piece by piece
unfoldable pub Equal : FourCubics → FourCubics → Type 0
Equal S S' = (k : Piece) → S k ≅ S' k
