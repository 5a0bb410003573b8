-- Beside the cells that touch the node, and on their far sides, height and slopes are the same in both sheets: the cubics of other cells are, and along an edge
-- they depend on its two nodes only. Assumes nothing.
use Prim.Native.Nat.{ℕ, suc}
use mathlib.Core.Path.{◌≡◌, refl}
use mathlib.Core.Logic.{◌⊎◌, inl, inr}
use mathlib.Core.List.{List}
use native.Mathlib.Decide.{ℕ_discrete}
use native.Mathlib.Omega.{arith}
use lib.Dec.{T}
use lib.IntN.{ℤ}
use Rattle.element_sibson.specs.Fraction.{ℚ}
use Rattle.element_sibson.specs.Cubic.{Cell, Point, jet, ◌≋◌}
use Rattle.element_sibson.specs.Piece.{Piece, top, right, bottom, left, InCell, triangle, edge, left_top, right_top, left_bottom, right_bottom}
use Rattle.element_sibson.specs.Element.{Nodes, element}
use Rattle.element_sibson.specs.Theorems.{first, last, AgreeAlong}
use Rattle.element_sibson.proofs.Fractions.{≈_refl}
use Rattle.element_sibson.proofs.Jets.{◌≈ₚ◌, ≋_refl}
use Rattle.element_sibson.proofs.SharedEdges.{edges}
use Rattle.element_sibson.proofs.Unique.{existence}
use Rattle.sheet_layout.specs.Format.{line_x, line_y}
use Rattle.sheet_calls.specs.Refusals.{Accepted}
use Rattle.sheet_reach.specs.Reach.{TouchesNode}
use Rattle.surface_of_sheet.specs.Place.{cell_of, Place, point_at}
use Rattle.surface_of_sheet.specs.Surface.{nodes_of, set_of, jet_at}
use Rattle.surface_of_sheet.specs.Touching.{Touches}
use Rattle.surface_of_sheet.proofs.Cells.{x_rising, y_rising, width_back, height_back}
use Rattle.surface_of_sheet.proofs.Places.{on_piece}
use Rattle.surface_of_sheet.proofs.EdgePoints.{View, over_edge, at_end, at_start}
use Rattle.surface_reach.specs.Nudged.{NudgedSheet, FarLine, InCellAt, Beside}
use Rattle.surface_reach.proofs.Cells.{cells, same_node, same_set}
use Rattle.surface_reach.proofs.Axis.{own_line}

-- ---- on one cell

-- two sets of nodes that are the same at both ends of an edge: every piece that holds a point of the edge has the same height and slopes there
along_edge : (C : Cell) (m m' : Nodes) (k : Piece) → m' (first k) ≡ m (first k) → m' (last k) ≡ m (last k) → (τ : ℚ) (P : Point) → InCell P → P ≈ₚ edge k τ →
    (l : Piece) → T (triangle l P) → jet C (element C m' l) P ≋ jet C (element C m l) P
unfolding AgreeAlong
along_edge C m m' k e f τ P in_cell on l t =
    over_edge (view m') (view m) k k τ (edges.own_nodes k C C m' m (record { lengths = refl; firsts = e; lasts = f }) τ) on on
  where
    view : Nodes → View
    view n = record { C = C; S = element C n; smooth = (existence.meets_nodes C n).smooth; P = P; in_cell = in_cell; piece = l; holds = t }

-- does a cell touch the node?
pub touches_node : (a b i j : ℕ) → TouchesNode a b i j ⊎ (¬ TouchesNode a b i j)
touches_node a b i j = elim (at a i) [
  | inl c ↦ elim (at b j) [ inl r ↦ inl (record { column = c; row = r }) | inr r ↦ inr (λ h. r h.row) ]
  | inr c ↦ inr (λ h. c h.column)
]
  where
    at : (a i : ℕ) → ((i ≡ a) ⊎ (i ≡ suc a)) ⊎ (¬ ((i ≡ a) ⊎ (i ≡ suc a)))
    at a i = elim (ℕ_discrete i a) [
      | yes e ↦ inl (inl e)
      | no d ↦ elim (ℕ_discrete i (suc a)) [ yes e ↦ inl (inr e) | no f ↦ inr (λ h. elim h [ inl g ↦ d g | inr g ↦ f g ]) ]
    ]

-- ---- a place of the pixel

module _ {s t : List ℕ} {i j : ℕ} {δ : ℤ} (n : NudgedSheet s i j δ t) {p : Place} {x y : ℕ} (h : Touches s p x y) where
  abbrev accepted : Accepted s
  accepted = n.sheets.first_accepted

  -- in a cell that does not touch the node
  pub untouched : ¬ TouchesNode p.column p.row i j → jet_at t p ≋ jet_at s p
  unfolding jet_at
  untouched away = rw ((cells n).cells p.column p.row h.has, same_set n h.has away) (≋_refl _)

  -- on an edge whose nodes are the same
  on_edge_lem : (k : Piece) (τ : ℚ) → nodes_of t p.column p.row (first k) ≡ nodes_of s p.column p.row (first k) →
      nodes_of t p.column p.row (last k) ≡ nodes_of s p.column p.row (last k) → point_at s p ≈ₚ edge k τ → jet_at t p ≋ jet_at s p
  unfolding jet_at set_of
  on_edge_lem k τ e f on =
      rw ((cells n).cells p.column p.row h.has)
      (along_edge (cell_of s p.column p.row) (nodes_of s p.column p.row) (nodes_of t p.column p.row) k e f τ (point_at s p)
      (on_piece s accepted h).in_cell on p.piece h.piece)

  far_x : FarLine (line_x s) p.column i x → jet_at t p ≋ jet_at s p
  far_x (inl (e, f)) =
      let τ = (point_at s p).s in
      on_edge_lem left τ (same_node n h.has left_top (λ g. omega (arith, e, g.0))) (same_node n h.has left_bottom (λ g. omega (arith, e, g.0)))
      (record { rs = at_start _ (omega (arith, f, h.across)); ss = ≈_refl τ })
  far_x (inr (e, f)) =
      let τ = (point_at s p).s in
      on_edge_lem right τ (same_node n h.has right_top (λ g. omega (arith, e, g.0))) (same_node n h.has right_bottom (λ g. omega (arith, e, g.0)))
      (record { rs = at_end _ (omega (arith, f, h.across, width_back s accepted p.column p.row h.has)); ss = ≈_refl τ })

  far_y : FarLine (line_y s) p.row j y → jet_at t p ≋ jet_at s p
  far_y (inl (e, f)) =
      let τ = (point_at s p).r in
      on_edge_lem top τ (same_node n h.has left_top (λ g. omega (arith, e, g.1))) (same_node n h.has right_top (λ g. omega (arith, e, g.1)))
      (record { rs = ≈_refl τ; ss = at_start _ (omega (arith, f, h.down)) })
  far_y (inr (e, f)) =
      let τ = (point_at s p).r in
      on_edge_lem bottom τ (same_node n h.has left_bottom (λ g. omega (arith, e, g.1))) (same_node n h.has right_bottom (λ g. omega (arith, e, g.1)))
      (record { rs = ≈_refl τ; ss = at_end _ (omega (arith, f, h.down, height_back s accepted p.column p.row h.has)) })

  -- the pixel lies in the place's cell
  in_cell_lem : InCellAt s p.column p.row x y
  in_cell_lem = record { left = omega (arith, h.across); right = h.to_right; top = omega (arith, h.down); bottom = h.to_bottom }

  pub beside : Beside s i j x y → jet_at t p ≋ jet_at s p
  beside where-is = elim (touches_node p.column p.row i j) [
    | inr away ↦ untouched away
    | inl c ↦ elim where-is [
      | inl apart ↦ absurd (apart.cells p.column p.row h.has c in_cell_lem)
      | inr far ↦ elim far.side [
        | inl across ↦ far_x (own_line (x_rising s accepted) far.has.column h.has.column across c.column in_cell_lem.left in_cell_lem.right)
        | inr down ↦ far_y (own_line (y_rising s accepted) far.has.row h.has.row down c.row in_cell_lem.top in_cell_lem.bottom)
      ]
    ]
  ]
