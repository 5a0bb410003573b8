-- The bends from each piece of a cell: of a cell that touches the pixel a piece touches it exactly where its triangle holds it. Assumes nothing.
use Prim.Native.Nat.{ℕ}
use mathlib.Core.Path.{◌≡◌, refl, ◌∙◌}
use mathlib.Core.List.{List, [], ◌∷◌, ◌++◌, flat_map}
use mathlib.Core.Bool.{Bool, true, false, cond}
use native.Mathlib.Omega.{arith}
use lib.IntN.{ℤ}
use Rattle.element_sibson.specs.Piece.{Piece, top, right, bottom, left, triangle}
use Rattle.element_sibson.specs.Element.{corner_numbers, element}
use Rattle.element_cell.specs.Cell.{pixel_point}
use Rattle.element_cell.proofs.Pieces.{same_test}
use Rattle.element_readings.specs.Reading.{bends_of}
use Rattle.element_bends.specs.PieceBends.{piece_bends, cell_bends}
use Rattle.sheet_layout.specs.Format.{columns, rows, line_x, line_y}
use Rattle.surface_of_sheet.specs.Place.{cell_of, Place, seen, touches}
use Rattle.surface_of_sheet.specs.Surface.{nodes_of, set_of}
use Rattle.surface_of_sheet.proofs.Places.{touched, touch}
use Rattle.surface_places.specs.Found.{CellTouches, pixel_in}
use Rattle.surface_bends.specs.Bends.{if_touching, touching_in, bends_at}
use Rattle.surface_bends.proofs.InTurn.{flat_map_append}
use Rattle.surface_bend_list.specs.Rows.{bends_in}

-- a list for the one element that passes a test
if_passed : {A : Type 0} (f : A → List ℤ) (b : Bool) (a : A) → flat_map f (cond b (a ∷ []) []) ≡ cond b (flat_map f (a ∷ [])) []
unfolding flat_map
if_passed f true a = refl
if_passed f false a = refl

module _ (s : List ℕ) {x y i j : ℕ} (h : CellTouches (line_x s) (columns s) i x) (k : CellTouches (line_y s) (rows s) j y) where
  touches_is : (p : Piece) → touches s (seen s i j p x y) x y ≡ triangle p (pixel_point (pixel_in s i j x y))
  unfolding pixel_in cell_of
  touches_is p = same_test _ _ (λ t. (touched s (seen s i j p x y) x y t).piece) (λ t. touch s (seen s i j p x y) x y (record {
    has = record { column = h.has; row = k.has };
    across = omega (arith, h.starts);
    to_right = h.ends;
    down = omega (arith, k.starts);
    to_bottom = k.ends;
    piece = t;
  }))

  -- from one piece
  piece_is : (p : Piece) → flat_map (bends_at s) (if_touching s x y (seen s i j p x y)) ≡ piece_bends (corner_numbers (cell_of s i j) (nodes_of s i j)) (pixel_in s i j x y) p
  unfolding if_touching piece_bends flat_map bends_at bends_of pixel_in cell_of set_of element
  piece_is p = if_passed (bends_at s) (touches s (seen s i j p x y) x y) _ ∙ rw (touches_is p) refl

  -- from all four
  pub cell_is : bends_in s x y j i ≡ cell_bends (corner_numbers (cell_of s i j) (nodes_of s i j)) (pixel_in s i j x y)
  unfolding bends_in touching_in cell_bends flat_map
  cell_is =
      let from : (p : Piece) (r : List Place) → flat_map (bends_at s) (if_touching s x y (seen s i j p x y) ++ r)
      ≡ piece_bends (corner_numbers (cell_of s i j) (nodes_of s i j)) (pixel_in s i j x y) p ++ flat_map (bends_at s) r =
      λ p r. flat_map_append (bends_at s) (if_touching s x y (seen s i j p x y)) r ∙ rw (piece_is p) refl in
      rw (from top, from right, from bottom, from left) refl
