-- A pixel inside a piece, on no line of the mesh and on no diagonal of its cell, is touched by that piece alone. Assumes nothing.
use Prim.Native.Nat.{ℕ, suc, ◌<◌}
use mathlib.Core.Path.{◌≡◌, refl, sym, ◌∙◌, subst}
use mathlib.Core.List.{List}
use native.Mathlib.Omega.{arith}
use native.Mathlib.Decide.{dec_lt}
use lib.Dec.{T}
use lib.ListN.{length}
use Rattle.element_sibson.specs.Fraction.{◌≈◌, complement}
use Rattle.element_sibson.specs.Cubic.{Point}
use Rattle.element_sibson.specs.Piece.{Piece, top, right, bottom, left, triangle, InCell, HalfDiagonal}
use Rattle.element_sibson.specs.Sense.{same, with_next, with_previous, at_centre}
use Rattle.element_sibson.proofs.Covers.{covering}
use Rattle.sheet_layout.specs.Format.{columns, rows, line_x, line_y}
use Rattle.sheet_calls.specs.Refusals.{Accepted}
use Rattle.sheet_calls.specs.WellFormed.{Inside}
use Rattle.surface_of_sheet.specs.Place.{point_at, columns_at, rows_at, column_at, row_at, place, seen}
use Rattle.surface_of_sheet.specs.Touching.{Touches}
use Rattle.surface_of_sheet.proofs.CellsAlong.{cell_laws}
use Rattle.surface_of_sheet.proofs.Cells.{sound, x_rising, y_rising}
use Rattle.surface_of_sheet.proofs.InPiece.{in_piece}
use Rattle.surface_of_sheet.proofs.Places.{touched, is_seen, there, on_piece}
use Rattle.surface_bends.specs.Bends.{touching_places, entry_place}
use Rattle.surface_bends.proofs.Touched.{column_between, row_between}
use Rattle.surface_bends.proofs.Listing.{only, once}
use Rattle.surface_bends.proofs.Counting.{least}

-- ---- off the diagonals a point of the cell has one piece

module _ (P : Point) (cell : InCell P) (off : ¬ (P.r ≈ P.s)) (off' : ¬ (P.r ≈ complement P.s)) where
  no_diagonal : (k : Piece) → ¬ HalfDiagonal k P
  unfolding HalfDiagonal
  no_diagonal top h = off' h.0
  no_diagonal right h = off h.0
  no_diagonal bottom h = off' h.0
  no_diagonal left h = off h.0

  one_piece : (k l : Piece) → T (triangle k P) → T (triangle l P) → k ≡ l
  one_piece k l t u = elim (covering.shared P cell k l t u) [
    | same e ↦ e
    | with_next e h ↦ absurd (no_diagonal k h)
    | with_previous e h ↦ absurd (no_diagonal l h)
    | at_centre h ↦ absurd (no_diagonal k (h k))
  ]

-- ---- so a pixel off the lines has one place

module _ (s : List ℕ) (x y : ℕ) (accepted : Accepted s) (inside : Inside s x y)
    (offX : (i : ℕ) → i < columns s → ¬ (x ≡ line_x s i)) (offY : (j : ℕ) → j < rows s → ¬ (y ≡ line_y s j))
    (off : ¬ ((point_at s (place s x y)).r ≈ (point_at s (place s x y)).s)) (off' : ¬ ((point_at s (place s x y)).r ≈ complement (point_at s (place s x y)).s)) where
  one_column : (columns_at s x).lowest ≡ (columns_at s x).highest
  one_column = cell_laws.elsewhere (line_x s) (columns s) x (x_rising s accepted) (sound s accepted).few_columns (λ k h. offX (suc k) (omega arith))

  one_row : (rows_at s y).lowest ≡ (rows_at s y).highest
  one_row = cell_laws.elsewhere (line_y s) (rows s) y (y_rising s accepted) (sound s accepted).few_rows (λ k h. offY (suc k) (omega arith))

  in_cell_lem : InCell (point_at s (place s x y))
  in_cell_lem = (on_piece s accepted (there s accepted x y inside)).in_cell

  one_seen : {i j : ℕ} {k : Piece} → Touches s (seen s i j k x y) x y → seen s i j k x y ≡ place s x y
  unfolding place column_at row_at
  one_seen {i} {j} {k} t =
      let (a, b) = column_between s accepted x y inside t in let (c, d) = row_between s accepted x y inside t in
      let p = place s x y in
      let e : i ≡ p.column = omega (arith, one_column) in let f : j ≡ p.row = omega (arith, one_row) in
      let piece : T (triangle k (point_at s p)) = rw (e, f) at t.piece in
      let g : k ≡ p.piece = one_piece (point_at s p) in_cell_lem off off' k p.piece piece (in_piece s x y) in
      rw (e, f, g) refl

  one_place : (k : ℕ) → k < length (touching_places s x y) → entry_place s x y k ≡ place s x y
  one_place k h = let t = touched s (entry_place s x y k) x y (only s x y k h) in
      subst (λ p. Touches s p x y → p ≡ place s x y) (is_seen t) one_seen t

  pub alone : length (touching_places s x y) ≡ 1
  alone =
      let some = least s x y accepted inside in
      elim (dec_lt 1 (length (touching_places s x y))) [
        | no h ↦ omega arith
        | yes h ↦ absurd (let e = once s x y 0 1 (omega arith) h (one_place 0 (omega arith) ∙ sym (one_place 1 h)) in omega arith)
      ]
