-- The row of a pixel in the upper half of its cell: from the end of left it is in top up to that one's end, and then in right. Assumes nothing.
use Prim.Native.Nat.{ℕ, suc, ◌+◌, ◌*◌, ◌-◌, ◌≤◌, ◌<◌}
use mathlib.Core.Path.{◌≡◌, ◌∙◌, ap}
use native.Mathlib.Nat.{mul_comm, mul_assoc, mul-le-mul_right}
use native.Mathlib.Numerals.{add-one}
use native.Mathlib.Omega.{arith}
use Rattle.element_sibson.specs.Piece.{Piece, top, right, left}
use Rattle.element_cell.specs.Cell.{PixelInCell}
use Rattle.element_cell.specs.declared.Pixel.{Pixel}
use Rattle.element_spans.specs.Span.{ceiling, end_of}
use Rattle.element_spans.proofs.Divisions.{below_floor, from_floor, from_ceiling, floor_mirrored}
use Rattle.element_spans.proofs.Products.{At}

module _ (p : Pixel) where
  -- s is at most one half
  pub upper_half_lem : 2 * p.b ≤ p.height → 2 * (p.b * p.width) ≤ p.width * p.height
  upper_half_lem h = omega (arith, mul-le-mul_right p.width h, mul_assoc 2 p.b p.width, mul_comm p.width p.height)

module _ (p : Pixel) (i : PixelInCell p) where
  -- s is at most 1
  pub height_fits : p.b * p.width ≤ p.width * p.height
  height_fits = omega (arith, mul-le-mul_right p.width i.down, mul_comm p.width p.height)

  -- from the end of left on, with the middle piece k
  pub record Crossed (k : Piece) : Type 0 where
    pub middle : {a : ℕ} → end_of left p ≤ a → a < end_of k p → At p k a
    pub beyond : {a : ℕ} → end_of k p ≤ a → At p right a

  pub upper : 2 * p.b ≤ p.height → Crossed top
  unfolding end_of
  upper h = let half = upper_half_lem p h in let d = i.height.least in record {
    middle = λ l m. omega (arith, half, from_ceiling d l, (below_floor d).0 m);
    beyond = λ l. omega (arith, half, from_floor d l);
  }

  pub upper_ends : 2 * p.b ≤ p.height → (ceiling (p.b * p.width) p.height ≡ end_of left p) × (p.width - ceiling (p.b * p.width) p.height + 1 ≡ end_of top p)
  unfolding end_of
  upper_ends h = (
    ap (λ m. ceiling m p.height) (omega (arith, upper_half_lem p h)),
    add-one _ ∙ ap suc (floor_mirrored (p.b * p.width) i.height.least p.width height_fits),
  )
