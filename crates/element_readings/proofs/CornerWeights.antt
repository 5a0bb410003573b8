-- The weight of a corner's height on a piece: it lies from 0 to 1, and it is short of 1 by the cubes of the distances from the corner. Assumes nothing.
use mathlib.Core.Path.{◌≡◌, refl, ◌∙◌, ap, subst, subst₃}
use mathlib.Core.Bool.{Bool}
use mathlib.Core.List.{[], ◌∷◌}
use Prim.Native.Nat.{ℕ, zero, suc, ◌+◌, ◌*◌, ◌≤◌, ◌<◌}
use native.Mathlib.Omega.{arith}
use lib.Dec.{T}
use lib.IntN.{ℤ, pos, ◌+ℤ◌, ◌-ℤ◌, ◌*ℤ◌}
use lib.Signed.{◌≤ℤ◌}
use Rattle.integers.proofs.Polynomial.{Expr, var, #◌, ◌⊕◌, ◌⊗◌, ◌⊝◌, ⊖◌, eval}
use Rattle.integers.proofs.Solve.{Claim, ◌≐◌, ◌≼◌, Holds}
use Rattle.integers.proofs.Deduce.{◌·◌, ◌⊨◌, deduce}
use Rattle.integers.proofs.Naturals.{holds_naturally, naturally}
use Rattle.integers.proofs.Order.{nonneg_pos, pos_inj, ≤→≤ℤ, ≤ℤ→≤}
use Rattle.element_sibson.specs.Fraction.{Positive, ◌≈◌, ◌≤ℚ◌, whole}
use Rattle.element_sibson.specs.Cubic.{Point, value}
use Rattle.element_sibson.specs.Piece.{Piece, Corner, left_top, right_top, left_bottom, right_bottom, at}
use Rattle.element_sibson.specs.Element.{in_order, weights, weighed, halved, transposed, flipped, mirrored, swap, negate_x, negate_y, exchanged, top_down, left_right, on_top, on_left, sibson}
use Rattle.element_sibson.proofs.Finite.{every_piece, every_piece_lem, every_corner, every_corner_lem}
use Rattle.element_sibson.proofs.Fractions.{≈_sym, ≈_trans, ≤_left, ≤_right}
use Rattle.element_sibson.proofs.Jets.{◌≈ₚ◌}
use Rattle.element_readings.specs.Bounds.{On}
use Rattle.element_readings.specs.WeightSums.{alone, unit_height}
use Rattle.element_readings.specs.CornerWeights.{weight_of, IsAt, CornerWeights}
use Rattle.element_readings.proofs.Changes.{changes}
use Rattle.element_readings.proofs.Form.{form, cube, cubeₑ}
use Rattle.element_readings.proofs.Parts.{over_cubes, value_sibson}
use Rattle.element_readings.proofs.InPiece.{Aₑ, Bₑ, Qₑ, weighted, on_pieceₑ, weighing}

-- ---- distances from a corner, times Q

abbrev xₑ : Corner → Expr → Expr → Expr
xₑ left_top A Q = A
xₑ right_top A Q = Q ⊝ A
xₑ left_bottom A Q = A
xₑ right_bottom A Q = Q ⊝ A

abbrev yₑ : Corner → Expr → Expr → Expr
yₑ left_top B Q = B
yₑ right_top B Q = B
yₑ left_bottom B Q = Q ⊝ B
yₑ right_bottom B Q = Q ⊝ B

abbrev acrossₑ : Piece → Corner → Expr → Expr → Expr → Expr
acrossₑ k c u v w = xₑ c (Aₑ k u v w) (Qₑ u v w)

abbrev downₑ : Piece → Corner → Expr → Expr → Expr → Expr
downₑ k c u v w = yₑ c (Bₑ k u v w) (Qₑ u v w)

-- ---- the tests: no weight and no distance is negative, and the weight with the cubes of both distances is at most 2Q³

abbrev weightₑ : Piece → Corner → Expr → Expr → Expr → Expr
unfolding weight_of
weightₑ k c u v w = on_pieceₑ k (weight_of c k) u v w

abbrev Test : Type 0
Test = Piece → Corner → Expr → Expr → Expr → Claim

abbrev Everywhere : Test → Type 0
Everywhere t = (k : Piece) (c : Corner) (u v w : ℕ) → Holds (t k c (var 0) (var 1) (var 2)) (pos u ∷ pos v ∷ pos w ∷ [])

abbrev passes : Test → Piece → Corner → Bool
passes t k c = holds_naturally (t k c (var 0) (var 1) (var 2))

passed : (t : Test) → T (every_piece (λ k. every_corner (passes t k))) → Everywhere t
passed t p k c = naturally 3 (t k c) (every_corner_lem (passes t k) (every_piece_lem (λ k. every_corner (passes t k)) p k) c)

weight≥0 : Everywhere (λ k c u v w. # 0 ≼ weightₑ k c u v w)
unfolding weight_of alone in_order weights weighed halved transposed flipped mirrored swap negate_x negate_y exchanged top_down left_right on_top on_left sibson
weight≥0 = passed (λ k c u v w. # 0 ≼ weightₑ k c u v w) tt

across≥0 : Everywhere (λ k c u v w. # 0 ≼ acrossₑ k c u v w)
across≥0 = passed (λ k c u v w. # 0 ≼ acrossₑ k c u v w) tt

down≥0 : Everywhere (λ k c u v w. # 0 ≼ downₑ k c u v w)
down≥0 = passed (λ k c u v w. # 0 ≼ downₑ k c u v w) tt

abbrev shortₑ : Test
shortₑ k c u v w = weightₑ k c u v w ⊕ cubeₑ (acrossₑ k c u v w) ⊕ cubeₑ (downₑ k c u v w) ≼ # 2 ⊗ cubeₑ (Qₑ u v w)

short : Everywhere shortₑ
unfolding weight_of alone in_order weights weighed halved transposed flipped mirrored swap negate_x negate_y exchanged top_down left_right on_top on_left sibson
short = passed shortₑ tt

-- ---- the weight at a point of a piece: a natural over 2Q³

no_cube : (n : ℕ) → n * n * n ≤ 0 → n ≡ 0
no_cube zero h = refl
no_cube (suc n) h = absurd (omega arith)

-- A/Q is 0, and it is 1
zero_at : (A : ℤ) (Q : Positive) → A ≡ pos 0 → record { numerator = A; denominator = Q } ≈ whole (pos 0)
zero_at A Q e = record { crossed = deduce 2 (λ a q. (# 1 · (a ≐ # 0)) ∷ [] ⊨ a ⊗ # 1 ≐ # 0 ⊗ q) tt A (pos Q.number) e }

one_at : (A : ℤ) (Q : Positive) → pos Q.number -ℤ A ≡ pos 0 → record { numerator = A; denominator = Q } ≈ whole (pos 1)
one_at A Q e = record { crossed = deduce 2 (λ a q. (⊖ # 1 · (q ⊝ a ≐ # 0)) ∷ [] ⊨ a ⊗ # 1 ≐ # 1 ⊗ q) tt A (pos Q.number) e }

-- no distance from the corner is the corner
arrived : (c : Corner) (k : Piece) (u v w : ℕ) (h : 0 < u + v + 2 * w) → let ρ = pos u ∷ pos v ∷ pos w ∷ [] in
    eval ρ (acrossₑ k c (var 0) (var 1) (var 2)) ≡ pos 0 → eval ρ (downₑ k c (var 0) (var 1) (var 2)) ≡ pos 0 →
    weighted k u v w h ≈ₚ at c
arrived left_top k u v w h x y = record { rs = zero_at _ _ x; ss = zero_at _ _ y }
arrived right_top k u v w h x y = record { rs = one_at _ _ x; ss = zero_at _ _ y }
arrived left_bottom k u v w h x y = record { rs = zero_at _ _ x; ss = one_at _ _ y }
arrived right_bottom k u v w h x y = record { rs = one_at _ _ x; ss = one_at _ _ y }

record Share (c : Corner) (k : Piece) (P : Point) : Type 0 where
  Q : Positive
  weight : ℕ
  across : ℕ
  down : ℕ
  value_is : value (weight_of c k) P ≈ over_cubes (pos weight) Q
  most : weight + across * across * across + down * down * down ≤ 2 * (cube Q).number
  there : across ≡ 0 → down ≡ 0 → IsAt c P

share : (c : Corner) (k : Piece) (P : Point) → On k P → Share c k P
unfolding weight_of form
share c k P o =
    let g = weighing P k o in
    let q : Positive = record { number = g.u + g.v + 2 * g.w; above = g.above } in
    let (n, is-n) = nonneg_pos (weight≥0 k c g.u g.v g.w) in
    let (x, is_x) = nonneg_pos (across≥0 k c g.u g.v g.w) in
    let (y, is_y) = nonneg_pos (down≥0 k c g.u g.v g.w) in
    record {
      Q = q;
      weight = n;
      across = x;
      down = y;
      value_is = subst (λ z. value (weight_of c k) P ≈ over_cubes z q) is-n (value_sibson (alone c unit_height) k g.point);
      most = ≤ℤ→≤ (subst₃ (λ z a b. (z +ℤ a *ℤ a *ℤ a +ℤ b *ℤ b *ℤ b) ≤ℤ pos (2 * (cube q).number)) is-n is_x is_y (short k c g.u g.v g.w));
      there = λ no-x no-y. let e = arrived c k g.u g.v g.w g.above (is_x ∙ ap pos no-x) (is_y ∙ ap pos no-y) in
          record { across = ≈_trans g.point.rs e.rs; down = ≈_trans g.point.ss e.ss };
    }

least : (c : Corner) (k : Piece) (P : Point) → On k P → whole (pos 0) ≤ℚ value (weight_of c k) P
least c k P o = let s = share c k P o in ≤_right (record { crossed = ≤→≤ℤ (omega arith) }) (≈_sym s.value_is)

most : (c : Corner) (k : Piece) (P : Point) → On k P → value (weight_of c k) P ≤ℚ whole (pos 1)
most c k P o = let s = share c k P o in ≤_left s.value_is (record { crossed = ≤→≤ℤ (omega arith) })

only_there : (c : Corner) (k : Piece) (P : Point) → On k P → value (weight_of c k) P ≈ whole (pos 1) → IsAt c P
only_there c k P o e = let s = share c k P o in
    let w : s.weight * 1 ≡ 1 * (2 * (cube s.Q).number) = pos_inj (≈_trans (≈_sym s.value_is) e).crossed in
    s.there (no_cube s.across (omega arith)) (no_cube s.down (omega arith))

pub corner_weights : CornerWeights
corner_weights = record { changes = changes; least = least; most = most; only_there = only_there }
