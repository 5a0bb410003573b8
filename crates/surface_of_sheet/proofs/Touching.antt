-- From every piece and cell that touches a pixel the height and the slopes are the same: pieces of a cell agree where they meet, and so do two cells along
-- their edge. Assumes nothing.
use Prim.Native.Nat.{ℕ, suc, ◌-◌}
use mathlib.Core.Path.{◌≡◌, subst}
use mathlib.Core.List.{List}
use native.Mathlib.Omega.{arith}
use lib.Dec.{T}
use Rattle.element_sibson.specs.Fraction.{ℚ}
use Rattle.element_sibson.specs.Cubic.{Jet, ◌≋◌}
use Rattle.element_sibson.specs.Piece.{Piece, top, right, bottom, left, piece_at}
use Rattle.element_sibson.proofs.Fractions.{≈_refl}
use Rattle.element_sibson.proofs.Jets.{≋_trans}
use Rattle.element_sibson.proofs.Covers.{covering}
use Rattle.element_sibson.proofs.Unique.{existence}
use Rattle.element_cell.specs.Cell.{cell}
use Rattle.element_readings.specs.Reading.{level_of, tilt_x_of, tilt_y_of}
use Rattle.element_readings.proofs.Rounded.{rounded-≈}
use Rattle.sheet_layout.specs.Format.{columns, rows, line_x, line_y}
use Rattle.sheet_calls.specs.Refusals.{Accepted}
use Rattle.surface_of_sheet.specs.Place.{cell_of, Place, point_at, column_at, row_at, place, seen, touches}
use Rattle.surface_of_sheet.specs.Surface.{nodes_of, set_of, jet_at, level_at, tilt_x_at, tilt_y_at, level, tilt_x, tilt_y}
use Rattle.surface_of_sheet.specs.Touching.{Touches, Touching}
use Rattle.surface_of_sheet.proofs.Along.{along_at}
use Rattle.surface_of_sheet.proofs.Cells.{x_rising, y_rising, width_back, height_back}
use Rattle.surface_of_sheet.proofs.Sets.{beside, beneath}
use Rattle.surface_of_sheet.proofs.EdgePoints.{View, from_piece, over_edge, at_end, at_start}
use Rattle.surface_of_sheet.proofs.Places.{touched, is_seen, there, inside, on_piece}
use Rattle.surface_of_sheet.proofs.Worked.{bends}

-- ---- the places of a pixel

module _ (s : List ℕ) (accepted : Accepted s) (x y : ℕ) where
  -- the pixel, seen from a piece of the cell in column i and row j
  abbrev From : ℕ → ℕ → Piece → Type 0
  From i j k = Touches s (seen s i j k x y) x y

  abbrev at : ℕ → ℕ → Piece → Jet ℚ
  at i j k = jet_at s (seen s i j k x y)

  view : {i j : ℕ} {k : Piece} → From i j k → View
  unfolding set_of
  view {i} {j} {k} t = record {
    C = cell_of s i j;
    S = set_of s i j;
    smooth = (existence.meets_nodes (cell_of s i j) (nodes_of s i j)).smooth;
    P = point_at s (seen s i j k x y);
    in_cell = (on_piece s accepted t).in_cell;
    piece = k;
    holds = t.piece;
  }

  -- from two pieces of a cell
  in_cell_lem : {i j : ℕ} {k l : Piece} → From i j k → From i j l → at i j k ≋ at i j l
  unfolding jet_at view
  in_cell_lem {l = l} t u = from_piece (view t) l u.piece

  -- from a cell and the one to its right: a/W is 1 in the one and 0 in the other, and b/H is the same
  one_right : {i j : ℕ} {k l : Piece} → x ≡ line_x s (suc i) → From i j k → From (suc i) j l → at i j k ≋ at (suc i) j l
  unfolding jet_at view cell_of cell
  one_right {i} {j} {k} {l} e t u =
      let b = (point_at s (seen s i j k x y)).s in
      over_edge (view t) (view u) right left b (beside s i j b)
      (record { rs = at_end _ (omega (arith, e, width_back s accepted i j t.has)); ss = ≈_refl b }) (record { rs = at_start _ (omega (arith, e)); ss = ≈_refl b })

  -- from a cell and the one below
  one_down : {i j : ℕ} {k l : Piece} → y ≡ line_y s (suc j) → From i j k → From i (suc j) l → at i j k ≋ at i (suc j) l
  unfolding jet_at view cell_of cell
  one_down {i} {j} {k} {l} e t u =
      let a = (point_at s (seen s i j k x y)).r in
      over_edge (view t) (view u) bottom top a (beneath s i j a)
      (record { rs = ≈_refl a; ss = at_end _ (omega (arith, e, height_back s accepted i j t.has)) }) (record { rs = ≈_refl a; ss = at_start _ (omega (arith, e)) })

  -- from the cell of the same row in the column of the pixel's place
  along_row_lem : {i j : ℕ} {k l : Piece} → From i j k → From (column_at s x) j l → at i j k ≋ at (column_at s x) j l
  unfolding column_at
  along_row_lem {i} {j} {k} {l} t =
      along_at (x_rising s accepted) x (columns s - 2) i (omega (arith, t.has.column)) (omega (arith, t.has.column)) (omega (arith, t.across)) t.to_right
      (λ c. From c j l → at i j k ≋ at c j l) (λ u. in_cell_lem t u) (λ e u. one_right e t u)

  -- from the cell of the same column in the row of the pixel's place
  along_column : {i j : ℕ} {k l : Piece} → From i j k → From i (row_at s y) l → at i j k ≋ at i (row_at s y) l
  unfolding row_at
  along_column {i} {j} {k} {l} t =
      along_at (y_rising s accepted) y (rows s - 2) j (omega (arith, t.has.row)) (omega (arith, t.has.row)) (omega (arith, t.down)) t.to_bottom
      (λ c. From i c l → at i j k ≋ at i c l) (λ u. in_cell_lem t u) (λ e u. one_down e t u)

  -- from every place: first along the row, then along the column
  seen_jets : {i j : ℕ} {k : Piece} → From i j k → at i j k ≋ jet_at s (place s x y)
  unfolding place
  seen_jets {i} {j} {k} t =
      let c = column_at s x in let own = there s accepted x y (inside s accepted t) in
      let l = piece_at (point_at s (seen s c j k x y)) in
      let between : From c j l = record {
        has = record { column = own.has.column; row = t.has.row };
        across = own.across;
        to_right = own.to_right;
        down = t.down;
        to_bottom = t.to_bottom;
        piece = covering.covers (point_at s (seen s c j k x y));
      } in
      ≋_trans {j = at i j k} {k = at c j l} {l = jet_at s (place s x y)} (along_row_lem t between) (along_column between own)

jets : (s : List ℕ) (p : Place) (x y : ℕ) → Accepted s → T (touches s p x y) → jet_at s p ≋ jet_at s (place s x y)
jets s p x y accepted h = let t = touched s p x y h in
    subst (λ q. Touches s q x y → jet_at s q ≋ jet_at s (place s x y)) (is_seen t) (seen_jets s accepted x y) t

-- ---- so level and tilt are

pub touching : Touching
unfolding jet_at level_at tilt_x_at tilt_y_at level tilt_x tilt_y level_of tilt_x_of tilt_y_of
touching = record {
  jets = jets;
  levels = λ s p x y a t. rounded-≈ (jets s p x y a t).heights;
  tilts_x = λ s p x y a t. rounded-≈ (jets s p x y a t).x_slopes;
  tilts_y = λ s p x y a t. rounded-≈ (jets s p x y a t).y_slopes;
  bends = bends;
}
