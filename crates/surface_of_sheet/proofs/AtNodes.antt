-- At a node's pixel the level is the node's height in grains, and the tilt its slopes. Assumes nothing.
use Prim.Native.Nat.{ℕ, suc, ◌+◌, ◌-◌, ◌≤◌, ◌<◌}
use mathlib.Core.Path.{◌≡◌, refl, sym, ◌∙◌, ap, ap₂, subst}
use mathlib.Core.Logic.{◌⊎◌, inl, inr}
use mathlib.Core.List.{List, [], ◌∷◌}
use native.Mathlib.Omega.{arith}
use native.Mathlib.Decide.{dec_lt}
use lib.Dec.{lit≤}
use lib.IntN.{◌*ℤ◌}
use Rattle.element_sibson.specs.Piece.{Corner, left_top, right_top, left_bottom, right_bottom}
use Rattle.element_sibson.specs.Cubic.{jet, ◌≋◌}
use Rattle.element_sibson.specs.Theorems.{wholes}
use Rattle.element_readings.specs.CornerWeights.{IsAt}
use Rattle.element_readings.specs.Reading.{level_of, tilt_x_of, tilt_y_of}
use Rattle.element_readings.proofs.AtCorners.{at_node_lem, at_corners}
use Rattle.element_readings.proofs.Rounded.{rounded_whole}
use Rattle.sheet_layout.specs.Format.{columns, rows, line_x, line_y, Node, grains_per_step, height_at, slope_x_at, slope_y_at}
use Rattle.sheet_calls.specs.Refusals.{setting_refusal, Accepted}
use Rattle.sheet_calls.specs.Calls.{with_node}
use Rattle.sheet_calls.specs.NodeLaws.{Leaves, ReadsBack}
use Rattle.sheet_calls.proofs.Chains.{HasNode, setting_held}
use Rattle.sheet_calls.proofs.Setting.{setting_laws}
use Rattle.surface_answers.specs.Answers.{answered}
use Rattle.surface_of_sheet.specs.Place.{Place, cell_at, point_at, column_at, row_at, place}
use Rattle.surface_of_sheet.specs.Surface.{node_numbers, nodes_of, set_of, cubic_at, jet_at, level_at, tilt_x_at, tilt_y_at, level, tilt_x, tilt_y}
use Rattle.surface_of_sheet.specs.Read.{numbers, read}
use Rattle.surface_of_sheet.specs.Theorems.{AtNodes}
use Rattle.surface_of_sheet.proofs.Cells.{x_rising, y_rising, width_back, height_back}
use Rattle.surface_of_sheet.proofs.InPiece.{in_piece}
use Rattle.surface_of_sheet.proofs.Places.{place_laws, has_cell, node_inside}
use Rattle.surface_of_sheet.proofs.Answered.{read_is}

-- ---- a node's pixel is a corner of its cell

-- a pixels from the start of cell k, which is w pixels long, is line i: the cell's first line or its last
abbrev Ends : ℕ → ℕ → ℕ → ℕ → Type 0
Ends k w a i = ((k ≡ i) × (a ≡ 0)) ⊎ ((suc k ≡ i) × (a ≡ w))

-- line i belongs to the cell that it starts, the last line to the last cell
ends : (line : ℕ → ℕ) {n i k w : ℕ} → i < n → (suc i < n → k ≡ i) → (i ≡ n - 1 → suc (suc k) ≡ n) → line k + w ≡ line (suc k) → Ends k w (line i - line k) i
ends line {n} {i} {k} {w} l inner last back =
    elim (dec_lt (suc i) n) [
      | yes m ↦ inl (inner m, rw (inner m) (omega arith))
      | no m ↦ let end = last (omega arith) in let same : suc k ≡ i = omega arith in inr (same, rw (← same) (omega arith))
    ]

record AtCorner (s : List ℕ) (i j : ℕ) (p : Place) : Type 0 where
  corner : Corner
  there : IsAt corner (point_at s p)
  node : nodes_of s p.column p.row corner ≡ node_numbers s i j

at_corner : (s : List ℕ) (i j : ℕ) (p : Place) → Ends p.column (cell_at s p).W.number p.a i → Ends p.row (cell_at s p).H.number p.b j → AtCorner s i j p
unfolding nodes_of
at_corner s i j p (inl (e, a)) (inl (f, b)) = record { corner = left_top; there = rw (a, b) (at_corners.pixels (cell_at s p)).0; node = rw (e, f) refl }
at_corner s i j p (inr (e, a)) (inl (f, b)) = record { corner = right_top; there = rw (a, b) (at_corners.pixels (cell_at s p)).1; node = rw (e, f) refl }
at_corner s i j p (inl (e, a)) (inr (f, b)) = record { corner = left_bottom; there = rw (a, b) (at_corners.pixels (cell_at s p)).2; node = rw (e, f) refl }
at_corner s i j p (inr (e, a)) (inr (f, b)) = record { corner = right_bottom; there = rw (a, b) (at_corners.pixels (cell_at s p)).3; node = rw (e, f) refl }

-- ---- readings there

module _ (s : List ℕ) (i j : ℕ) (accepted : Accepted s) (l : i < columns s) (k : j < rows s) where
  abbrev x : ℕ
  x = line_x s i

  abbrev y : ℕ
  y = line_y s j

  abbrev p : Place
  p = place s x y

  node_place : AtCorner s i j p
  unfolding place
  node_place =
      let column = column_at s x in let row = row_at s y in let cell = has_cell s accepted x y in
      at_corner s i j p
      (ends (line_x s) l (λ h. place_laws.in_column s x y i accepted h (omega arith) ((x_rising s accepted).rises i h))
      (λ e. rw e (place_laws.last_column s y accepted)) (width_back s accepted column row cell))
      (ends (line_y s) k (λ h. place_laws.in_row s x y j accepted h (omega arith) ((y_rising s accepted).rises j h))
      (λ e. rw e (place_laws.last_row s x accepted)) (height_back s accepted column row cell))

  -- height and slopes there are exactly the node's
  node_jet : jet_at s p ≋ wholes (node_numbers s i j)
  unfolding set_of jet_at
  node_jet =
      let c = node_place in
      subst (λ n. jet (cell_at s p) (cubic_at s p) (point_at s p) ≋ wholes n) c.node
      (at_node_lem (cell_at s p) (nodes_of s p.column p.row) p.piece c.corner (point_at s p) (in_piece s x y) c.there)

  node_level : level s x y ≡ height_at s i j
  unfolding wholes node_numbers jet_at level level_at level_of
  node_level = rounded_whole node_jet.heights

  node_tilt_x : tilt_x s x y ≡ slope_x_at s i j
  unfolding wholes node_numbers jet_at tilt_x tilt_x_at tilt_x_of
  node_tilt_x = rounded_whole node_jet.x_slopes

  node_tilt_y : tilt_y s x y ≡ slope_y_at s i j
  unfolding wholes node_numbers jet_at tilt_y tilt_y_at tilt_y_of
  node_tilt_y = rounded_whole node_jet.y_slopes

  -- so a reading gives these
  node_read : (kind : ℕ) → kind ≤ 2 → read s x y kind ≡ answered kind (numbers s x y kind)
  node_read kind le = read_is (record { accepted = accepted; inside = node_inside s accepted i j l k; kind = le })

  read_level : read s x y 0 ≡ answered 0 (height_at s i j ∷ [])
  unfolding numbers
  read_level = node_read 0 (lit≤ tt) ∙ ap (λ z. answered 0 (z ∷ [])) node_level

  read_tilt : read s x y 1 ≡ answered 1 (slope_x_at s i j ∷ slope_y_at s i j ∷ [])
  unfolding numbers
  read_tilt = node_read 1 (lit≤ tt) ∙ ap₂ (λ a b. answered 1 (a ∷ b ∷ [])) node_tilt_x node_tilt_y

-- ---- a node that is set

module _ (s : List ℕ) (i j : ℕ) (v : Node) (e : setting_refusal s i j v ≡ 0) where
  abbrev t : List ℕ
  t = with_node s i j v

  leaves : Leaves s i j t
  leaves = setting_laws.leaves s i j v

  has : HasNode t i j
  has =
      let h = (setting_held s i j v e).0 in
      record { accepted = leaves.accepted h.accepted; column = rw leaves.lines.same_columns h.column; row = rw leaves.lines.same_rows h.row }

  back : ReadsBack i j v t
  back = setting_laws.reads_back s i j v e

  lines : (line_x s i ≡ line_x t i) × (line_y s j ≡ line_y t j)
  lines = let h = (setting_held s i j v e).0 in (sym (leaves.lines.same_x i h.column), sym (leaves.lines.same_y j h.row))

  set_level : read t (line_x s i) (line_y s j) 0 ≡ answered 0 ((grains_per_step *ℤ v.stored_height) ∷ [])
  unfolding height_at
  set_level =
      rw (lines.0, lines.1) (read_level t i j has.accepted has.column has.row)
      ∙ ap (λ (n : Node). answered 0 ((grains_per_step *ℤ n.stored_height) ∷ [])) back.numbers

  set_tilt : read t (line_x s i) (line_y s j) 1 ≡ answered 1 (v.slope_x ∷ v.slope_y ∷ [])
  unfolding slope_x_at slope_y_at
  set_tilt =
      rw (lines.0, lines.1) (read_tilt t i j has.accepted has.column has.row)
      ∙ ap (λ (n : Node). answered 1 (n.slope_x ∷ n.slope_y ∷ [])) back.numbers

pub at_nodes : AtNodes
at_nodes = record {
  node_levels = node_level;
  node_tilts_x = node_tilt_x;
  node_tilts_y = node_tilt_y;
  read_levels = read_level;
  read_tilts = read_tilt;
  set_levels = set_level;
  set_tilts = set_tilt;
}
