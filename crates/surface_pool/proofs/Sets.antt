-- The cubics of a pool are the sums: its nodes' numbers are, in grains, and the cubics are linear in them. Assumes nothing.
use Prim.Native.Nat.{ℕ, suc, ◌<◌}
use mathlib.Core.Path.{◌≡◌, ◌∙◌, ap}
use mathlib.Core.List.{List}
use native.Mathlib.Omega.{arith}
use lib.IntN.{ℤ, ◌+ℤ◌, ◌*ℤ◌}
use Rattle.integers.proofs.RingLaws.{*ℤ_distrib_l}
use Rattle.element_sibson.specs.Piece.{Piece, Corner, left_top, right_top, left_bottom, right_bottom}
use Rattle.element_sums.specs.Sums.{plus, together, SumOf}
use Rattle.element_sums.proofs.Sums.{sum_laws}
use Rattle.sheet_layout.specs.Format.{columns, rows, node_at, grains_per_step, height_at, slope_x_at, slope_y_at}
use Rattle.sheet_pool.specs.Pool.{added}
use Rattle.sheet_pool.specs.PoolLaws.{IsPool}
use Rattle.surface_of_sheet.specs.Place.{cell_of, HasCell}
use Rattle.surface_of_sheet.specs.Surface.{node_numbers, nodes_of, set_of}
use Rattle.surface_of_sheet.proofs.SameCells.{same_cells}
use Rattle.surface_pool.proofs.Cells.{pool_cells}

module _ {a b p : List ℕ} (pool : IsPool a b p) where
  node_sum : (i j : ℕ) → i < columns a → j < rows a → node_numbers p i j ≡ plus (node_numbers a i j) (node_numbers b i j)
  unfolding node_numbers height_at slope_x_at slope_y_at added
  node_sum i j h k =
      ap (λ v. record { height = grains_per_step *ℤ v.stored_height; x_slope = v.slope_x; y_slope = v.slope_y }) (pool.nodes i j h k)
      ∙ (λ t. record {
        height = *ℤ_distrib_l grains_per_step (node_at a i j).stored_height (node_at b i j).stored_height t;
        x_slope = (node_at a i j).slope_x +ℤ (node_at b i j).slope_x;
        y_slope = (node_at a i j).slope_y +ℤ (node_at b i j).slope_y;
      })

  nodes_sum : (i j : ℕ) → HasCell a i j → nodes_of p i j ≡ together (nodes_of a i j) (nodes_of b i j)
  unfolding nodes_of together
  nodes_sum i j h = λ t c. corner c t
    where
      column : i < columns a
      column = omega (arith, h.column)

      row : j < rows a
      row = omega (arith, h.row)

      corner : (c : Corner) → nodes_of p i j c ≡ together (nodes_of a i j) (nodes_of b i j) c
      corner left_top = node_sum i j column row
      corner right_top = node_sum (suc i) j h.column row
      corner left_bottom = node_sum i (suc j) column h.row
      corner right_bottom = node_sum (suc i) (suc j) h.column h.row

  pub sets : (i j : ℕ) → HasCell a i j → (k : Piece) → SumOf (set_of a i j k) (set_of b i j k) (set_of p i j k)
  unfolding set_of
  sets i j h k =
      rw ((same_cells pool.pair).cells i j h, (pool_cells pool).cells i j h, nodes_sum i j h)
      (sum_laws.elements (cell_of a i j) (nodes_of a i j) (nodes_of b i j) k)
