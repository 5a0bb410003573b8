-- The denominator of a level: 2 W³ H³ is from 1 to 2³⁷. Assumes nothing.
use mathlib.Core.Path.{◌≡◌, subst⁻¹}
use Prim.Native.Nat.{ℕ, ◌*◌, ◌^◌}
use native.Mathlib.Nat.{mul-pos}
use lib.Dec.{lit<}
use lib.IntN.{pos}
use Rattle.integers.specs.Within.{◌within◌}
use Rattle.integers.specs.Ratio.{Denominates}
use Rattle.integers.proofs.Order.{<→<ℤ}
use Rattle.integers.proofs.Bounds.{within_self, within-*}
use Rattle.element_cell.specs.Cell.{Side, cell}
use Rattle.element_cell.proofs.Sides.{cube_within, side_is}
use Rattle.element_row_cubic.specs.Row.{cubes_of}

pub cubes_are : {w h : ℕ} → Side w → Side h → (cubes_of (cell w h)).number ≡ w * w * w * (h * h * h)
unfolding cell cubes_of
cubes_are u v = λ i. let w = side_is u i in let h = side_is v i in w * w * w * (h * h * h)

pub denominates : {w h : ℕ} → Side w → Side h → Denominates (pos (2 * (cubes_of (cell w h)).number))
denominates {w} {h} u v = record {
  positive = <→<ℤ (mul-pos {m = 2} (lit< tt) (cubes_of (cell w h)).above);
  small = subst⁻¹ (λ (n : ℕ). pos (2 * n) within (2 ^ 37)) (cubes_are u v) (within-* (within_self (pos 2)) (within-* (cube_within u.most) (cube_within v.most)));
}
