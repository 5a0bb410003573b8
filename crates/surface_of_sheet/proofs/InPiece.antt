-- The point of the place that a pixel is read at lies in the place's piece. Assumes nothing.
use Prim.Native.Nat.{ℕ}
use mathlib.Core.List.{List}
use lib.Dec.{T}
use Rattle.element_sibson.specs.Piece.{triangle}
use Rattle.element_sibson.proofs.Covers.{covering}
use Rattle.surface_of_sheet.specs.Place.{point_at, place}

pub in_piece : (s : List ℕ) (x y : ℕ) → T (triangle (place s x y).piece (point_at s (place s x y)))
unfolding place
in_piece s x y = covering.covers (point_at s (place s x y))
