-- The place that a pixel is read at: it is a place of the pixel, in the cell furthest to the right and below, on the piece with the lowest number. Assumes nothing.
use Prim.Native.Nat.{ℕ, suc, ◌+◌, ◌-◌, ◌≤◌, ◌<◌}
use mathlib.Core.Path.{◌≡◌, refl, sym, subst}
use mathlib.Core.Logic.{◌↔◌}
use mathlib.Core.List.{List}
use mathlib.Core.Bool.{Bool, true, false}
use native.Mathlib.Omega.{arith}
use lib.Dec.{T}
use Rattle.element_sibson.specs.Piece.{triangle, number}
use Rattle.element_sibson.proofs.Fractions.{fraction_laws}
use Rattle.element_sibson.proofs.Covers.{covering}
use Rattle.element_readings.specs.Bounds.{On}
use Rattle.element_readings.proofs.Bounds.{bounds}
use Rattle.sheet_layout.specs.Format.{columns, rows, line_x, line_y}
use Rattle.sheet_calls.specs.Refusals.{Accepted}
use Rattle.sheet_calls.specs.WellFormed.{Inside}
use Rattle.sheet_calls.proofs.Rising.{rise}
use Rattle.sheet_layout.proofs.Meaning.{leb_holds, eqb_holds, and_holds}
use Rattle.surface_of_sheet.specs.Place.{cell_of, HasCell, Place, point_at, column_at, row_at, place, seen, touches}
use Rattle.surface_of_sheet.specs.Touching.{Touches, PlaceLaws}
use Rattle.surface_of_sheet.proofs.Along.{along_starts, along_last, along_in, axis_cell, axis_ends, axis_inside, axis_end}
use Rattle.surface_of_sheet.proofs.Cells.{sound, x_rising, y_rising, width_back, height_back}
use Rattle.surface_of_sheet.proofs.InPiece.{in_piece}

-- ---- what `touches` says, in facts

-- a test that holds
holds : (b : Bool) → (b ≡ true) ↔ T b
holds true = (λ e. tt, λ t. refl)
holds false = (λ e. subst T (sym e) tt, λ t. absurd t)

module _ (s : List ℕ) (p : Place) (x y : ℕ) where
  says : (touches s p x y ≡ true) ↔ Touches s p x y
  unfolding touches
  says = let all = and_holds (and_holds (and_holds (and_holds (and_holds (and_holds
      (leb_holds (suc (suc p.column)) (columns s)) (eqb_holds (line_x s p.column + p.a) x)) (leb_holds x (line_x s (suc p.column))))
      (leb_holds (suc (suc p.row)) (rows s))) (eqb_holds (line_y s p.row + p.b) y)) (leb_holds y (line_y s (suc p.row))))
      (holds (triangle p.piece (point_at s p))) in (
        λ e. let ((((((column, across), to_right), row), down), to_bottom), piece) = all.0 e in
            record { has = record { column = column; row = row }; across = across; to_right = to_right; down = down; to_bottom = to_bottom; piece = piece },
        λ f. all.1 ((((((f.has.column, f.across), f.to_right), f.has.row), f.down), f.to_bottom), f.piece),
      )

  pub touched : T (touches s p x y) → Touches s p x y
  touched t = says.0 ((holds (touches s p x y)).1 t)

  pub touch : Touches s p x y → T (touches s p x y)
  touch f = (holds (touches s p x y)).0 (says.1 f)

-- ---- a place is what its cell and piece tell

module _ {s : List ℕ} {p : Place} {x y : ℕ} (t : Touches s p x y) where
  offset_a : x - line_x s p.column ≡ p.a
  offset_a = omega (arith, t.across)

  offset_b : y - line_y s p.row ≡ p.b
  offset_b = omega (arith, t.down)

  pub is_seen : seen s p.column p.row p.piece x y ≡ p
  is_seen = rw (offset_a, offset_b) refl

-- ---- the place of a pixel

module _ (s : List ℕ) (accepted : Accepted s) where
  -- a node's pixel is one of the mesh
  pub node_inside : (i j : ℕ) → i < columns s → j < rows s → Inside s (line_x s i) (line_y s j)
  node_inside i j l k = record {
    left = rise (x_rising s accepted) 0 i (omega arith) l;
    right = rise (x_rising s accepted) i (columns s - 1) (omega arith) (omega arith);
    top = rise (y_rising s accepted) 0 j (omega arith) k;
    bottom = rise (y_rising s accepted) j (rows s - 1) (omega arith) (omega arith);
  }

  pub has_cell : (x y : ℕ) → HasCell s (column_at s x) (row_at s y)
  unfolding column_at row_at
  has_cell x y = record { column = axis_cell (line_x s) (sound s accepted).few_columns x; row = axis_cell (line_y s) (sound s accepted).few_rows y }

  module _ (x y : ℕ) (i : Inside s x y) where
    column_starts : line_x s (column_at s x) ≤ x
    unfolding column_at
    column_starts = along_starts (line_x s) x (columns s - 2) i.left

    row_starts : line_y s (row_at s y) ≤ y
    unfolding row_at
    row_starts = along_starts (line_y s) y (rows s - 2) i.top

    column_ends : x ≤ line_x s (suc (column_at s x))
    unfolding column_at
    column_ends = axis_ends (line_x s) (sound s accepted).few_columns x i.right

    row_ends : y ≤ line_y s (suc (row_at s y))
    unfolding row_at
    row_ends = axis_ends (line_y s) (sound s accepted).few_rows y i.bottom

    -- the offsets are at most the cell's width and height
    pub offset_across : x - line_x s (column_at s x) ≤ (cell_of s (column_at s x) (row_at s y)).W.number
    offset_across = omega (arith, column_ends, width_back s accepted (column_at s x) (row_at s y) (has_cell x y))

    pub offset_down : y - line_y s (row_at s y) ≤ (cell_of s (column_at s x) (row_at s y)).H.number
    offset_down = omega (arith, row_ends, height_back s accepted (column_at s x) (row_at s y) (has_cell x y))

    pub there : Touches s (place s x y) x y
    unfolding place
    there = record {
      has = has_cell x y;
      across = omega (arith, column_starts);
      to_right = column_ends;
      down = omega (arith, row_starts);
      to_bottom = row_ends;
      piece = in_piece s x y;
    }

  module _ {p : Place} {x y : ℕ} (t : Touches s p x y) where
    -- the pixel lies in the cell
    starts_across : line_x s p.column ≤ x
    starts_across = omega (arith, t.across)

    starts_down : line_y s p.row ≤ y
    starts_down = omega (arith, t.down)

    pub inside : Inside s x y
    inside = let across = axis_inside (x_rising s accepted) x p.column t.has.column starts_across t.to_right in
        let down = axis_inside (y_rising s accepted) y p.row t.has.row starts_down t.to_bottom in
        record { left = across.0; right = across.1; top = down.0; bottom = down.1 }

    -- and the place's point on its piece
    pub on_piece : On p.piece (point_at s p)
    on_piece = record {
      in_cell = (bounds.pixels (cell_of s p.column p.row) p.a p.b (omega (arith, width_back s accepted p.column p.row t.has, t.across, t.to_right))
          (omega (arith, height_back s accepted p.column p.row t.has, t.down, t.to_bottom))).in_cell;
      in_triangle = t.piece;
    }

    rightmost : p.column ≤ (place s x y).column
    unfolding column_at place
    rightmost = along_last (line_x s) x (columns s - 2) p.column (omega (arith, t.has.column)) starts_across

    lowermost : p.row ≤ (place s x y).row
    unfolding row_at place
    lowermost = along_last (line_y s) y (rows s - 2) p.row (omega (arith, t.has.row)) starts_down

    lowest : p.column ≡ (place s x y).column → p.row ≡ (place s x y).row → number (place s x y).piece ≤ number p.piece
    unfolding place
    lowest e f = rw (← e, ← f, offset_a t, offset_b t) (covering.lowest (point_at s p) p.piece t.piece)

pub place_laws : PlaceLaws
unfolding column_at row_at place
place_laws = record {
  means = λ s p x y. (touched s p x y, touch s p x y);
  across = λ s p. fraction_laws.quotients _ _;
  down = λ s p. fraction_laws.quotients _ _;
  there = λ s x y a i. touch s (place s x y) x y (there s a x y i);
  inside = λ s p x y a t. inside s a (touched s p x y t);
  in_column = λ s x y i a m. along_in (x_rising s a) x (columns s - 2) i (omega (arith, m)) (omega (arith, m));
  in_row = λ s x y j a m. along_in (y_rising s a) y (rows s - 2) j (omega (arith, m)) (omega (arith, m));
  last_column = λ s y a. axis_end (x_rising s a) (sound s a).few_columns;
  last_row = λ s x a. axis_end (y_rising s a) (sound s a).few_rows;
  rightmost = λ s p x y a t. rightmost s a (touched s p x y t);
  lowermost = λ s p x y a t. lowermost s a (touched s p x y t);
  lowest = λ s p x y a t. lowest s a (touched s p x y t);
}
