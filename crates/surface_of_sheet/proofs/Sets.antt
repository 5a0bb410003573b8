-- In each cell of an accepted sheet the set we read from is the one that fits the nodes, and cells agree along the edges that they share. Assumes nothing.
use Prim.Native.Nat.{ℕ, suc}
use mathlib.Core.Path.{refl}
use mathlib.Core.List.{List}
use Rattle.element_sibson.specs.Fraction.{ℚ}
use Rattle.element_sibson.specs.Cubic.{jet, ◌≋◌}
use Rattle.element_sibson.specs.Piece.{top, right, bottom, left, edge}
use Rattle.element_sibson.specs.Theorems.{AgreeAlong}
use Rattle.element_sibson.proofs.Unique.{existence}
use Rattle.element_sibson.proofs.SharedEdges.{edges}
use Rattle.element_cell.specs.Cell.{cell}
use Rattle.surface_of_sheet.specs.Place.{cell_of}
use Rattle.surface_of_sheet.specs.Surface.{nodes_of, set_of}
use Rattle.surface_of_sheet.specs.Theorems.{TheSet, SharedEdges}
use Rattle.surface_of_sheet.proofs.Cells.{width_back, height_back}

pub the_set : TheSet
unfolding set_of
the_set = record {
  widths = width_back;
  heights = height_back;
  fits = λ s a i j h. record { meets = existence.meets_nodes (cell_of s i j) (nodes_of s i j); nodes = existence.nodes (cell_of s i j) (nodes_of s i j) };
  only = λ s a i j h S f. existence.only_nodes (cell_of s i j) (nodes_of s i j) S f.meets f.nodes;
}

-- ---- shared edges

module _ (s : List ℕ) (i j : ℕ) (t : ℚ) where
  pub beside : jet (cell_of s i j) (set_of s i j right) (edge right t) ≋ jet (cell_of s (suc i) j) (set_of s (suc i) j left) (edge left t)
  unfolding set_of nodes_of cell_of cell AgreeAlong
  beside = edges.side_by_side (cell_of s i j) (cell_of s (suc i) j) (nodes_of s i j) (nodes_of s (suc i) j) (record { lengths = refl; firsts = refl; lasts = refl }) t

  pub beneath : jet (cell_of s i j) (set_of s i j bottom) (edge bottom t) ≋ jet (cell_of s i (suc j)) (set_of s i (suc j) top) (edge top t)
  unfolding set_of nodes_of cell_of cell AgreeAlong
  beneath = edges.one_above_the_other (cell_of s i j) (cell_of s i (suc j)) (nodes_of s i j) (nodes_of s i (suc j)) (record { lengths = refl; firsts = refl; lasts = refl }) t

pub shared_edges : SharedEdges
shared_edges = record { side_by_side = λ s a i j h h'. beside s i j; one_above_the_other = λ s a i j h h'. beneath s i j }
