-- The levels of the two sheets: which can differ, which way, and by how much; and a node that is set. Assumes nothing.
use Prim.Native.Nat.{ℕ}
use mathlib.Core.Path.{◌≡◌, sym, ◌∙◌, ap, subst⁻¹}
use mathlib.Core.Logic.{inl, inr}
use mathlib.Core.List.{List}
use native.Mathlib.Omega.{arith}
use lib.IntN.{ℤ, pos, nat_abs, ◌+ℤ◌, ◌-ℤ◌, ◌*ℤ◌}
use lib.Signed.{≤ℤ_refl}
use Rattle.integers.specs.Within.{◌within◌}
use Rattle.integers.proofs.Polynomial.{#◌, ◌⊕◌, ◌⊗◌, ◌⊝◌}
use Rattle.integers.proofs.Solve.{◌≐◌, solve}
use Rattle.integers.proofs.Bounds.{is_within}
use Rattle.element_sibson.specs.Cubic.{◌≋◌}
use Rattle.element_readings.specs.Reading.{level_of}
use Rattle.element_readings.proofs.Rounded.{rounded-≈}
use Rattle.element_reach.specs.Follows.{Follows}
use Rattle.element_reach.proofs.Nudge.{nudge_laws}
use Rattle.sheet_layout.specs.Format.{line_x, line_y, Node, grains_per_step, node_at, height_at, slope_x_at, slope_y_at}
use Rattle.sheet_calls.specs.Refusals.{setting_refusal}
use Rattle.sheet_calls.specs.WellFormed.{Inside}
use Rattle.sheet_calls.specs.Calls.{with_node}
use Rattle.sheet_calls.proofs.Chains.{setting_held}
use Rattle.sheet_calls.proofs.Setting.{setting_laws}
use Rattle.sheet_reach.specs.Reach.{TouchesNode}
use Rattle.surface_of_sheet.specs.Place.{Place, cell_at, point_at, place}
use Rattle.surface_of_sheet.specs.Surface.{node_numbers, nodes_of, set_of, jet_at, level_at, level}
use Rattle.surface_of_sheet.specs.Touching.{Touches}
use Rattle.surface_of_sheet.proofs.Places.{touched, there, on_piece}
use Rattle.surface_of_sheet.proofs.AtNodes.{at_nodes}
use Rattle.surface_reach.specs.Nudged.{NudgedSheet, WithinReach}
use Rattle.surface_reach.specs.NudgedLevels.{NudgedLevels}
use Rattle.surface_reach.proofs.Cells.{node_at_lem, cells, same_set, nudged_nodes}
use Rattle.surface_reach.proofs.Sides.{touches_node, untouched, beside}
use Rattle.surface_reach.proofs.Either.{one_of_both, either}

-- a level that stays
stays : (z k : ℤ) → Follows z k k
stays z k = record {
  up = λ h. ≤ℤ_refl k;
  down = λ h. ≤ℤ_refl k;
  most = subst⁻¹ (λ d. d within nat_abs z) (solve 1 (λ k. k ⊝ k ≐ # 0) tt k) (is_within (pos 0) (omega arith));
}

module _ {s t : List ℕ} {i j : ℕ} {δ : ℤ} (n : NudgedSheet s i j δ t) where
  -- ---- at a pixel of the mesh

  module _ {x y : ℕ} (inside : Inside s x y) where
    abbrev p : Place
    p = place s x y

    here : Touches s p x y
    here = there s n.sheets.first_accepted x y inside

    -- the other sheet is read at the same place
    same_level : jet_at t p ≋ jet_at s p → level t x y ≡ level s x y
    unfolding level level_at level_of jet_at
    same_level e = rw ((cells n).places x y) (rounded-≈ e.heights)

    nudged_level : TouchesNode p.column p.row i j → Follows δ (level s x y) (level t x y)
    unfolding level level_at set_of
    nudged_level c =
        let at = node_at_lem c in
        rw ((cells n).places x y, (cells n).cells p.column p.row here.has, nudged_nodes n here.has at)
        (nudge_laws.levels (cell_at s p) (nodes_of s p.column p.row) at.corner δ p.piece (point_at s p)
        (on_piece s n.sheets.first_accepted here))

    follows : Follows δ (level s x y) (level t x y)
    follows = elim (touches_node p.column p.row i j) [
      | inl c ↦ nudged_level c
      | inr away ↦ subst⁻¹ (Follows δ (level s x y)) (same_level (untouched n here away)) (stays δ (level s x y))
    ]

    changed : ¬ (level t x y ≡ level s x y) → WithinReach s i j x y
    changed differs = elim (one_of_both s i j n.sheets.first_accepted n.column n.row x y) [
      | inl w ↦ absurd (differs (same_level (beside n here w)))
      | inr w ↦ w
    ]

  -- ---- at the node

  at_node_lem : level t (line_x s i) (line_y s j) ≡ level s (line_x s i) (line_y s j) +ℤ δ
  at_node_lem =
      rw (← n.sheets.lines.same_x i n.column, ← n.sheets.lines.same_y j n.row)
      (at_nodes.node_levels t i j n.sheets.second_accepted (rw n.sheets.lines.same_columns n.column) (rw n.sheets.lines.same_rows n.row))
      ∙ n.height ∙ ap (λ h. h +ℤ δ) (sym (at_nodes.node_levels s i j n.sheets.first_accepted n.column n.row))

-- ---- a node that is set

module _ (s : List ℕ) (i j : ℕ) (v : Node) (e : setting_refusal s i j v ≡ 0) where
  set_node : v.slope_x ≡ (node_at s i j).slope_x → v.slope_y ≡ (node_at s i j).slope_y →
      NudgedSheet s i j (grains_per_step *ℤ (v.stored_height -ℤ (node_at s i j).stored_height)) (with_node s i j v)
  unfolding height_at slope_x_at slope_y_at node_numbers
  set_node sx sy =
      let held = (setting_held s i j v e).0 in let leaves = setting_laws.leaves s i j v in let back = (setting_laws.reads_back s i j v e).numbers in
      record {
        sheets = record { first_accepted = held.accepted; second_accepted = leaves.accepted held.accepted; lines = leaves.lines };
        column = held.column;
        row = held.row;
        height = ap (λ (w : Node). grains_per_step *ℤ w.stored_height) back
            ∙ solve 2 (λ h k. # 64 ⊗ k ≐ # 64 ⊗ h ⊕ # 64 ⊗ (k ⊝ h)) tt (node_at s i j).stored_height v.stored_height;
        slope_x = ap (λ (w : Node). w.slope_x) back ∙ sx;
        slope_y = ap (λ (w : Node). w.slope_y) back ∙ sy;
        others = λ c r l k away. ap (λ (w : Node). record { height = grains_per_step *ℤ w.stored_height; x_slope = w.slope_x; y_slope = w.slope_y }) (leaves.others c r l away);
      }

pub nudged_levels : NudgedLevels
nudged_levels = record {
  cells = λ s t i j δ n a b has away. same_set n has away;
  same = λ s t i j δ n x y w p h. beside n (touched s p x y h) w;
  either = either;
  changed = λ s t i j δ n x y inside. changed n inside;
  levels = λ s t i j δ n x y inside. follows n inside;
  at_node = λ s t i j δ n. at_node_lem n;
  setting = set_node;
}
