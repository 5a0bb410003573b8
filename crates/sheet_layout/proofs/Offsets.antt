-- Where the nodes of a sheet lie: within it, and apart from each other. Assumes nothing.
use Prim.Native.Nat.{ℕ, ◌+◌, ◌*◌, ◌≤◌, ◌<◌}
use mathlib.Core.Path.{◌≡◌, ap}
use mathlib.Core.Logic.{◌⊎◌, inl, inr}
use mathlib.Core.List.{List}
use native.Mathlib.Nat.{mul-le-mul, mul_comm, suc-mul, le_refl}
use native.Mathlib.Decide.{dec_lt}
use native.Mathlib.Omega.{arith}
use lib.ListN.{length}
use Rattle.sheet_layout.specs.Format.{columns, rows, node_size, node_offset, stated_size}

-- a later row starts behind all of an earlier one
rows_apart : (m i j j' : ℕ) → i < m → j < j' → j * m + i < j' * m
rows_apart m i j j' h k = omega (arith, suc-mul j m, mul-le-mul k (le_refl m))

pub node_fits : (s : List ℕ) → stated_size s ≤ length s → (i j : ℕ) → i < columns s → j < rows s → node_offset s i j + node_size ≤ length s
node_fits s whole i j h k = omega (arith, whole, rows_apart (columns s) i j (rows s) h k, mul_comm (rows s) (columns s))

-- a node's index in the order of the rows tells its row and its column
module _ (m i j i' j' : ℕ) (h : i < m) (h' : i' < m) (same : j * m + i ≡ j' * m + i') where
  same_row : j' ≡ j
  same_row =
      let not_before : ¬ (j < j') = λ k. omega (arith, rows_apart m i j j' h k) in
      let not_behind : ¬ (j' < j) = λ k. omega (arith, rows_apart m i' j' j h' k) in
      omega arith

  same_column : i' ≡ i
  same_column = omega (arith, ap (λ r. r * m) same_row)

-- the first of two nodes ends before the second starts, or the other way round
pub nodes_apart : (s : List ℕ) (i j i' j' : ℕ) → i < columns s → i' < columns s → ((i' ≡ i) × (j' ≡ j) → ⊥)
    → (node_offset s i j + node_size ≤ node_offset s i' j') ⊎ (node_offset s i' j' + node_size ≤ node_offset s i j)
nodes_apart s i j i' j' h h' other =
    let m = columns s in
    let differ : ¬ (j * m + i ≡ j' * m + i') = λ e. other (same_column m i j i' j' h h' e, same_row m i j i' j' h h' e) in
    elim (dec_lt (j * m + i) (j' * m + i')) [ yes before ↦ inl (omega arith) | no behind ↦ inr (omega arith) ]
