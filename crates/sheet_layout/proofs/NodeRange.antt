-- The test of a node's range is that each of its numbers is in range. Assumes nothing.
use Prim.Native.Nat.{ℕ}
use mathlib.Core.Path.{◌≡◌}
use mathlib.Core.Logic.{◌↔◌}
use mathlib.Core.Bool.{true}
use lib.Dec.{leb}
use lib.IntN.{ℤ, nat_abs}
use Rattle.integers.specs.Within.{◌within◌}
use Rattle.sheet_layout.specs.Format.{Node, highest, steepest, height_in, slope_in, node_in}
use Rattle.sheet_layout.proofs.Meaning.{leb_holds, and_holds}

pub within_holds : (z : ℤ) (N : ℕ) → (leb (nat_abs z) N ≡ true) ↔ (z within N)
within_holds z N = let h = leb_holds (nat_abs z) N in (λ e. record { bound = h.0 e }, λ w. h.1 w.bound)

pub slope_in_lem : (z : ℤ) → (slope_in z ≡ true) ↔ (z within steepest)
unfolding slope_in
slope_in_lem z = within_holds z steepest

pub node_in_lem : (v : Node) → (node_in v ≡ true) ↔ (((v.stored_height within highest) × (v.slope_x within steepest)) × (v.slope_y within steepest))
unfolding node_in height_in
node_in_lem v = and_holds (and_holds (within_holds v.stored_height highest) (slope_in_lem v.slope_x)) (slope_in_lem v.slope_y)
