-- The nodes and cubics of a cell of both sheets: the same where it does not touch the node, and nudged at one corner where it does. Assumes nothing.
use Prim.Native.Nat.{ℕ, suc, ◌<◌}
use mathlib.Core.Path.{◌≡◌, refl, sym}
use mathlib.Core.Logic.{inl, inr}
use mathlib.Core.List.{List}
use native.Mathlib.Omega.{arith}
use lib.IntN.{ℤ, ◌+ℤ◌}
use Rattle.element_sibson.specs.Piece.{Corner, left_top, right_top, left_bottom, right_bottom}
use Rattle.element_readings.specs.CornerWeights.{nudged}
use Rattle.sheet_layout.specs.Format.{columns, rows}
use Rattle.sheet_reach.specs.Reach.{TouchesNode}
use Rattle.surface_of_sheet.specs.Place.{HasCell}
use Rattle.surface_of_sheet.specs.Surface.{node_numbers, nodes_of, set_of}
use Rattle.surface_of_sheet.specs.SameCells.{SameCells}
use Rattle.surface_of_sheet.proofs.SameCells.{same_cells}
use Rattle.surface_reach.specs.Nudged.{NudgedSheet}

-- the column and the row of the node at a corner of the cell in column a and row b
abbrev pub column_of : Corner → ℕ → ℕ
column_of left_top a = a
column_of right_top a = suc a
column_of left_bottom a = a
column_of right_bottom a = suc a

abbrev pub row_of : Corner → ℕ → ℕ
row_of left_top b = b
row_of right_top b = b
row_of left_bottom b = suc b
row_of right_bottom b = suc b

node_of : (s : List ℕ) (a b : ℕ) (c : Corner) → nodes_of s a b c ≡ node_numbers s (column_of c a) (row_of c b)
unfolding nodes_of
node_of s a b left_top = refl
node_of s a b right_top = refl
node_of s a b left_bottom = refl
node_of s a b right_bottom = refl

column_in_lem : {s : List ℕ} {a b : ℕ} → HasCell s a b → (c : Corner) → column_of c a < columns s
column_in_lem h left_top = omega (arith, h.column)
column_in_lem h right_top = h.column
column_in_lem h left_bottom = omega (arith, h.column)
column_in_lem h right_bottom = h.column

row_in : {s : List ℕ} {a b : ℕ} → HasCell s a b → (c : Corner) → row_of c b < rows s
row_in h left_top = omega (arith, h.row)
row_in h right_top = omega (arith, h.row)
row_in h left_bottom = h.row
row_in h right_bottom = h.row

-- the corner that the node is at
pub record NodeAt (a b i j : ℕ) : Type 0 where
  pub corner : Corner
  pub column : i ≡ column_of corner a
  pub row : j ≡ row_of corner b

pub node_at_lem : {a b i j : ℕ} → TouchesNode a b i j → NodeAt a b i j
node_at_lem h = elim h.column [
  | inl c ↦ elim h.row [
    | inl r ↦ record { corner = left_top; column = c; row = r }
    | inr r ↦ record { corner = left_bottom; column = c; row = r }
  ]
  | inr c ↦ elim h.row [
    | inl r ↦ record { corner = right_top; column = c; row = r }
    | inr r ↦ record { corner = right_bottom; column = c; row = r }
  ]
]

-- whatever corner the node is at, the cell touches it
corner_touches : {a b i j : ℕ} (c : Corner) → i ≡ column_of c a → j ≡ row_of c b → TouchesNode a b i j
corner_touches left_top e f = record { column = inl e; row = inl f }
corner_touches right_top e f = record { column = inr e; row = inl f }
corner_touches left_bottom e f = record { column = inl e; row = inr f }
corner_touches right_bottom e f = record { column = inr e; row = inr f }

module _ {s t : List ℕ} {i j : ℕ} {δ : ℤ} (n : NudgedSheet s i j δ t) where
  pub cells : SameCells s t
  cells = same_cells n.sheets

  module _ {a b : ℕ} (has : HasCell s a b) where
    -- a corner that is not the node's
    pub same_node : (c : Corner) → ¬ ((column_of c a ≡ i) × (row_of c b ≡ j)) → nodes_of t a b c ≡ nodes_of s a b c
    same_node c away = rw (node_of t a b c, node_of s a b c) (n.others (column_of c a) (row_of c b) (column_in_lem has c) (row_in has c) away)

    same_nodes : ¬ TouchesNode a b i j → nodes_of t a b ≡ nodes_of s a b
    same_nodes away = λ τ c. same_node c (λ e. away (corner_touches c (sym e.0) (sym e.1))) τ

    pub same_set : ¬ TouchesNode a b i j → set_of t a b ≡ set_of s a b
    unfolding set_of
    same_set away = rw (cells.cells a b has, same_nodes away) refl

    -- the node's corner, and the corners in turn
    own_node : (c : Corner) → i ≡ column_of c a → j ≡ row_of c b →
        nodes_of t a b c ≡ record { height = (nodes_of s a b c).height +ℤ δ; x_slope = (nodes_of s a b c).x_slope; y_slope = (nodes_of s a b c).y_slope }
    unfolding node_numbers
    own_node c e f =
        rw (node_of t a b c, node_of s a b c, ← e, ← f) (λ τ. record { height = n.height τ; x_slope = n.slope_x τ; y_slope = n.slope_y τ })

    each_node : (c d : Corner) → i ≡ column_of c a → j ≡ row_of c b → nodes_of t a b d ≡ nudged c δ (nodes_of s a b) d
    unfolding nudged
    each_node left_top left_top e f = own_node left_top e f
    each_node left_top right_top e f = same_node right_top (λ h. omega (arith, e, h.0))
    each_node left_top left_bottom e f = same_node left_bottom (λ h. omega (arith, f, h.1))
    each_node left_top right_bottom e f = same_node right_bottom (λ h. omega (arith, e, h.0))
    each_node right_top left_top e f = same_node left_top (λ h. omega (arith, e, h.0))
    each_node right_top right_top e f = own_node right_top e f
    each_node right_top left_bottom e f = same_node left_bottom (λ h. omega (arith, e, h.0))
    each_node right_top right_bottom e f = same_node right_bottom (λ h. omega (arith, f, h.1))
    each_node left_bottom left_top e f = same_node left_top (λ h. omega (arith, f, h.1))
    each_node left_bottom right_top e f = same_node right_top (λ h. omega (arith, e, h.0))
    each_node left_bottom left_bottom e f = own_node left_bottom e f
    each_node left_bottom right_bottom e f = same_node right_bottom (λ h. omega (arith, e, h.0))
    each_node right_bottom left_top e f = same_node left_top (λ h. omega (arith, e, h.0))
    each_node right_bottom right_top e f = same_node right_top (λ h. omega (arith, f, h.1))
    each_node right_bottom left_bottom e f = same_node left_bottom (λ h. omega (arith, e, h.0))
    each_node right_bottom right_bottom e f = own_node right_bottom e f

    pub nudged_nodes : (at : NodeAt a b i j) → nodes_of t a b ≡ nudged at.corner δ (nodes_of s a b)
    nudged_nodes at = λ τ d. each_node at.corner d at.column at.row τ
