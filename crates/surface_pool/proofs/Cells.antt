-- A pool has the cells of the first sheet. Assumes nothing.
use Prim.Native.Nat.{ℕ}
use mathlib.Core.List.{List}
use Rattle.sheet_pool.specs.PoolLaws.{IsPool}
use Rattle.surface_of_sheet.specs.SameCells.{SameCells}
use Rattle.surface_of_sheet.proofs.SameCells.{same_cells}

pub pool_cells : {a b p : List ℕ} → IsPool a b p → SameCells a p
pool_cells x = same_cells (record { first_accepted = x.pair.first_accepted; second_accepted = x.accepted; lines = x.lines })
