-- What is listed comes in order: cells row by row, in each the pieces by number. Assumes nothing.
use Prim.Native.Nat.{ℕ, ◌-◌}
use mathlib.Core.Logic.{inl}
use mathlib.Core.List.{List}
use Rattle.sheet_layout.specs.Format.{columns, rows}
use Rattle.surface_bends.specs.Bends.{in_turn, touching_in, touching_places}
use Rattle.surface_bends.specs.BendLaws.{Before}
use Rattle.surface_bends.proofs.InTurn.{Ordered, ordered_in_turn}
use Rattle.surface_bends.proofs.CellsListed.{row_ordered, in_row}

module _ (s : List ℕ) (x y : ℕ) where
  pub all_ordered : Ordered Before (touching_places s x y)
  unfolding touching_places Before
  all_ordered = ordered_in_turn Before (rows s - 1) (λ j. in_turn (columns s - 1) (touching_in s x y j)) (row_ordered s x y)
      (λ j k p q h m n. rw ((in_row s x y m).1.is, (in_row s x y n).1.is) (inl h))
