-- Where a piece ends in the row of a pixel: its pixels lie before that, all to their right up to there are its own, and it is no further than the cell's.
-- Assumes nothing.
use Prim.Native.Nat.{ℕ, suc, ◌≤◌, ◌<◌}
use native.Mathlib.Nat.{suc-mul, mul_comm, mul-le-mul_right}
use native.Mathlib.Omega.{arith}
use Rattle.element_sibson.specs.Piece.{Piece, top, right, bottom, left}
use Rattle.element_cell.specs.declared.Pixel.{Pixel}
use Rattle.element_spans.specs.Span.{end_of}
use Rattle.element_spans.proofs.Divisions.{below_floor, below_ceiling}
use Rattle.element_spans.proofs.Products.{At}

-- in the row of a pixel
module _ (p : Pixel) (high : 0 < p.height) where
  pub before_end : (k : Piece) (a : ℕ) → a ≤ p.width → At p k a → a < end_of k p
  unfolding end_of
  before_end top a l h = (below_floor high).1 (omega arith)
  before_end right a l h = omega arith
  before_end bottom a l h = (below_ceiling high).1 h.0
  before_end left a l h = (below_ceiling high).1 (omega arith)

  pub up_to_end : (k : Piece) {a c : ℕ} → a ≤ c → At p k a → c < end_of k p → At p k c
  unfolding end_of
  up_to_end top l h e = (omega (arith, mul-le-mul_right p.height l), omega (arith, (below_floor high).0 e))
  up_to_end right l h e = omega (arith, mul-le-mul_right p.height l)
  up_to_end bottom l h e = ((below_ceiling high).0 e, omega (arith, mul-le-mul_right p.height l))
  up_to_end left l h e = omega (arith, (below_ceiling high).0 e)

  -- the products tell an end beyond the cell's
  pub beyond_cell : (k : Piece) → p.b ≤ p.height → suc p.width < end_of k p → ⊥
  unfolding end_of
  beyond_cell top l e = omega (arith, (below_floor high).0 e, suc-mul p.width p.height)
  beyond_cell right l e = omega arith
  beyond_cell bottom l e = omega (arith, (below_ceiling high).0 e, suc-mul p.width p.height, mul-le-mul_right p.width l, mul_comm p.width p.height)
  beyond_cell left l e = omega (arith, (below_ceiling high).0 e, suc-mul p.width p.height)
