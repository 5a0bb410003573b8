-- Sides of cells and offsets in them as numbers: their bounds, and a side as a number above 0. Assumes nothing.
use mathlib.Core.Path.{◌≡◌, refl}
use Prim.Native.Nat.{ℕ, zero, suc, ◌*◌, ◌^◌, ◌≤◌}
use native.Mathlib.Omega.{arith}
use lib.IntN.{pos}
use Rattle.integers.specs.Within.{◌within◌}
use Rattle.integers.proofs.Bounds.{is_within, within-*}
use Rattle.element_cell.specs.Cell.{Side, side}

pub length_within : {l : ℕ} → l ≤ 64 → pos l within 64
length_within {l} h = is_within (pos l) h

pub square_within : {l : ℕ} → l ≤ 64 → pos (l * l) within (2 ^ 12)
square_within h = within-* (length_within h) (length_within h)

pub cube_within : {l : ℕ} → l ≤ 64 → pos (l * l * l) within (2 ^ 18)
cube_within h = within-* (square_within h) (length_within h)

pub side_is : {l : ℕ} → Side l → (side l).number ≡ l
unfolding side
side_is {l = zero} h = absurd (let least : 1 ≤ 0 = h.least in omega arith)
side_is {l = suc l} h = refl
