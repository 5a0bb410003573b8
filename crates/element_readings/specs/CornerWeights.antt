-- What a corner's height weighs in a piece. Assumes nothing.
use Rattle.std.specs.Prelude.{cond, eqb, ℤ, pos, ◌+ℤ◌}
use Rattle.element_sibson.specs.Fraction.{◌≈◌, ◌≤ℚ◌, whole, ◌+ℚ◌, ◌·ℚ◌}
use Rattle.element_sibson.specs.Cubic.{Point, value}
use Rattle.element_sibson.specs.Piece.{Piece, FourCubics, Corner, at}
use Rattle.element_sibson.specs.Element.{CornerNumbers, sibson}
use Rattle.element_cell.specs.Corners.{corner_index}
use Rattle.element_readings.specs.Bounds.{On}
use Rattle.element_readings.specs.WeightSums.{alone, unit_height}

-- the weight of a corner's height: the piece where it is 1 and all other corner numbers are 0
unfoldable pub weight_of : Corner → FourCubics
weight_of c = sibson (alone c unit_height)

-- the height at corner c changed by z, all else left as it is
unfoldable pub nudged : Corner → ℤ → CornerNumbers → CornerNumbers
nudged c z n d = record { height = cond (eqb (corner_index c) (corner_index d)) ((n d).height +ℤ z) (n d).height; x_slope = (n d).x_slope; y_slope = (n d).y_slope }

-- the point is the corner
pub record IsAt (c : Corner) (P : Point) : Type 0 where
  pub across : P.r ≈ (at c).r
  pub down : P.s ≈ (at c).s

pub record CornerWeights : Type 0 where
  -- the weight is what a change of the corner's height is multiplied by
  pub changes : (c : Corner) (z : ℤ) (n : CornerNumbers) (k : Piece) (P : Point) →
      value (sibson (nudged c z n) k) P ≈ value (sibson n k) P +ℚ z ·ℚ value (weight_of c k) P
  -- on every piece it lies from 0 to 1, and it is 1 only at the corner
  pub least : (c : Corner) (k : Piece) (P : Point) → On k P → whole (pos 0) ≤ℚ value (weight_of c k) P
  pub most : (c : Corner) (k : Piece) (P : Point) → On k P → value (weight_of c k) P ≤ℚ whole (pos 1)
  pub only_there : (c : Corner) (k : Piece) (P : Point) → On k P → value (weight_of c k) P ≈ whole (pos 1) → IsAt c P
