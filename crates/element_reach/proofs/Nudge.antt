-- The level at a point of a piece follows the height of a corner: by its weight there, which is 1 only at the corner. Assumes nothing.
use mathlib.Core.Path.{◌≡◌, refl, sym, ◌∙◌, ap, subst⁻¹}
use mathlib.Core.Logic.{inl, inr}
use mathlib.Core.List.{[], ◌∷◌}
use lib.Dec.{T}
use lib.IntN.{ℤ, pos, nat_abs, ◌+ℤ◌, ◌*ℤ◌}
use Rattle.integers.proofs.Polynomial.{#◌, ◌⊕◌, ◌⊝◌}
use Rattle.integers.proofs.Solve.{◌≐◌, ◌≼◌, solve}
use Rattle.integers.proofs.Deduce.{◌·◌, ◌⊨◌, deduce}
use Rattle.integers.proofs.Order.{≤ℤ_or->}
use Rattle.integers.proofs.Bounds.{within_self}
use Rattle.integers.specs.Within.{◌within◌}
use Rattle.element_sibson.specs.Fraction.{◌≈◌, ◌+ℚ◌, ◌·ℚ◌}
use Rattle.element_sibson.specs.Cubic.{Cell, Point, value, jet}
use Rattle.element_sibson.specs.Piece.{Piece, triangle, Corner, left_top, right_top, left_bottom, right_bottom}
use Rattle.element_sibson.specs.Element.{Nodes, corner_numbers, sibson, element}
use Rattle.element_sibson.proofs.Fractions.{≤_antisym}
use Rattle.element_readings.specs.Reading.{rounded, level_of}
use Rattle.element_readings.specs.Bounds.{On}
use Rattle.element_readings.specs.CornerWeights.{weight_of, nudged, IsAt}
use Rattle.element_readings.proofs.Rounded.{half_unit, rounded-≈}
use Rattle.element_readings.proofs.CornerWeights.{corner_weights}
use Rattle.element_readings.proofs.AtCorners.{at_corners}
use Rattle.element_reach.specs.Follows.{Follows}
use Rattle.element_reach.specs.Nudge.{Nearest, NudgeLaws}
use Rattle.element_reach.proofs.Shares.{shares}

ours : Nearest rounded
ours = record { near = half_unit.distances; alike = rounded-≈ }

-- by all of z
by_all : (z k : ℤ) → Follows z k (k +ℤ z)
by_all z k = record {
  up = deduce 2 (λ z k. (# 1 · (# 0 ≼ z)) ∷ [] ⊨ k ≼ k ⊕ z) tt z k;
  down = deduce 2 (λ z k. (# 1 · (z ≼ # 0)) ∷ [] ⊨ k ⊕ z ≼ k) tt z k;
  most = subst⁻¹ (λ d. d within nat_abs z) (solve 2 (λ z k. k ⊕ z ⊝ k ≐ z) tt z k) (within_self z);
}

nudged_height : (m : Nodes) (c : Corner) (z : ℤ) → (nudged c z m c).height ≡ (m c).height +ℤ z
unfolding nudged
nudged_height m left_top z = refl
nudged_height m right_top z = refl
nudged_height m left_bottom z = refl
nudged_height m right_bottom z = refl

module _ (C : Cell) (m : Nodes) (c : Corner) (z : ℤ) where
  -- a height counts alike among a cell's nodes and among its corner numbers
  same_nudge : corner_numbers C (nudged c z m) ≡ nudged c z (corner_numbers C m)
  unfolding corner_numbers nudged
  same_nudge = refl

  module _ (k : Piece) (P : Point) where
    there : T (triangle k P) → IsAt c P → level_of C (element C (nudged c z m) k) P ≡ level_of C (element C m k) P +ℤ z
    there t at =
        at_corners.node_levels C (nudged c z m) k c P t at ∙ nudged_height m c z ∙ ap (λ h. h +ℤ z) (sym (at_corners.node_levels C m k c P t at))

    changes : value (element C (nudged c z m) k) P ≈ value (element C m k) P +ℚ z ·ℚ value (weight_of c k) P
    unfolding element
    changes = subst⁻¹ (λ n. value (sibson n k) P ≈ value (sibson (corner_numbers C m) k) P +ℚ z ·ℚ value (weight_of c k) P) same_nudge
        (corner_weights.changes c z (corner_numbers C m) k P)

    levels : On k P → Follows z (level_of C (element C m k) P) (level_of C (element C (nudged c z m) k) P)
    unfolding level_of jet
    levels o =
        let w = value (weight_of c k) P in
        elim (≤ℤ_or-> (pos 1 *ℤ pos w.denominator.number) (w.numerator *ℤ pos 1)) [
          | inl h ↦ subst⁻¹ (λ l. Follows z (level_of C (element C m k) P) l)
              (there o.in_triangle (corner_weights.only_there c k P o (≤_antisym (corner_weights.most c k P o) (record { crossed = h }))))
              (by_all z (level_of C (element C m k) P))
          | inr h ↦ shares ours (value (element C m k) P) w z changes (corner_weights.least c k P o) (record { crossed = h })
        ]

pub nudge_laws : NudgeLaws
nudge_laws = record { ours = ours; shares = λ ρ. shares; levels = levels; there = there }
