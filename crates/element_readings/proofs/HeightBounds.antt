-- At a point of a piece the absolute weights of the twelve corner numbers add up to at most 3 Q³, so the height is within 3/2 of their bound. Assumes nothing.
use mathlib.Core.Path.{subst, subst⁻¹}
use mathlib.Core.List.{List, map}
use Prim.Native.Nat.{ℕ, ◌+◌, ◌*◌, ◌≤◌}
use native.Mathlib.Nat.{mul-le-mul_right}
use native.Mathlib.Omega.{arith}
use lib.Dec.{T}
use lib.IntN.{ℤ, pos}
use Rattle.integers.specs.Within.{◌within◌}
use Rattle.integers.proofs.Polynomial.{Expr, var, #◌, ◌⊗◌}
use Rattle.integers.proofs.Naturals.{fits, ◌∑≼◌, absolutes}
use Rattle.integers.proofs.Order.{≤ℤ→≤}
use Rattle.integers.proofs.Bounds.{within_mono}
use Rattle.element_sibson.specs.Fraction.{positive, whole, ◌÷◌}
use Rattle.element_sibson.specs.Cubic.{Point, value}
use Rattle.element_sibson.specs.Piece.{Piece}
use Rattle.element_sibson.specs.Element.{CornerNumbers, in_order, weights, weighed, halved, transposed, flipped, mirrored, swap, negate_x, negate_y, exchanged, top_down, left_right, on_top, on_left, sibson}
use Rattle.element_sibson.proofs.Finite.{every_piece_lem}
use Rattle.element_cell.specs.Corners.{AllWithin}
use Rattle.element_cell.specs.Coefficients.{size}
use Rattle.element_readings.specs.Reading.{◌withinℚ◌}
use Rattle.element_readings.specs.Bounds.{On}
use Rattle.element_readings.specs.WeightSums.{alone}
use Rattle.element_readings.proofs.Limits.{halves_limit}
use Rattle.element_readings.proofs.WeightSums.{parts, each_within}
use Rattle.element_readings.proofs.Form.{form, cubeₑ, value_within}
use Rattle.element_readings.proofs.Parts.{dot_within, divisor_is, form_sibson}
use Rattle.element_readings.proofs.InPiece.{Qₑ, number_a, number_b, on_pieceₑ, weighing}

weightsₑ : Piece → Expr → Expr → Expr → List Expr
weightsₑ k u v w = map (λ f. on_pieceₑ k f u v w) (parts k)

small : (k : Piece) → T (fits (weightsₑ k (var 0) (var 1) (var 2)) (# halves_limit ⊗ cubeₑ (Qₑ (var 0) (var 1) (var 2))))
unfolding weightsₑ alone in_order weights weighed halved transposed flipped mirrored swap negate_x negate_y exchanged top_down left_right on_top on_left sibson
small = every_piece_lem (λ k. fits (weightsₑ k (var 0) (var 1) (var 2)) (# halves_limit ⊗ cubeₑ (Qₑ (var 0) (var 1) (var 2)))) tt

-- the twelve weights
abbrev weights_at : Piece → ℕ → ℕ → ℕ → List ℤ
weights_at k u v w = map (λ f. form f (number_a k (pos u) (pos v) (pos w)) (number_b k (pos u) (pos v) (pos w)) (pos (u + v + 2 * w))) (parts k)

weights_small : (k : Piece) (u v w : ℕ) → size (weights_at k u v w) ≤ halves_limit * ((u + v + 2 * w) * (u + v + 2 * w) * (u + v + 2 * w))
unfolding size form weightsₑ
weights_small k u v w = ≤ℤ→≤ (absolutes 3 (λ u v w. weightsₑ k u v w ∑≼ # halves_limit ⊗ cubeₑ (Qₑ u v w)) (small k) u v w)

pub heights : (n : CornerNumbers) (N : ℕ) → AllWithin N n → (k : Piece) (P : Point) → On k P → value (sibson n k) P withinℚ whole (pos (halves_limit * N)) ÷ positive 2 tt
heights n N h k P o = let g = weighing P k o in let q = g.u + g.v + 2 * g.w in let ws = weights_at k g.u g.v g.w in
    subst (λ d. value (sibson n k) P withinℚ whole (pos (halves_limit * N)) ÷ d) (divisor_is n k)
    (value_within (sibson n k) (halves_limit * N) g.point
    (subst⁻¹ (λ z. z within (halves_limit * N * (q * q * q))) (form_sibson n k _ _ _)
    (within_mono (dot_within N ws (in_order n) (each_within h)) (most (size ws) (q * q * q) (weights_small k g.u g.v g.w)))))
  where
    most : (s c : ℕ) → s ≤ halves_limit * c → s * N ≤ halves_limit * N * c
    most s c l = omega (arith, mul-le-mul_right N l)
