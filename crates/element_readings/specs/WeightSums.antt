-- The weights of each piece written out in the cell's own r and s, and what they add up to without their signs. Assumes nothing.
use Rattle.std.specs.Prelude.{◌≡◌, cond, List, [], ◌∷◌, map, ℕ, ◌+◌, ◌*◌, ◌≤◌, eqb, ℤ, pos}
use Rattle.element_sibson.specs.Cubic.{Jet}
use Rattle.element_sibson.specs.Piece.{Piece, top, right, bottom, left, Corner, left_top, right_top, left_bottom, right_bottom}
use Rattle.element_sibson.specs.Element.{CornerNumbers, halved, sibson}
use Rattle.element_cell.specs.Corners.{corner_index, AllWithin}
use Rattle.element_cell.specs.Coefficients.{listed, size}

-- corner numbers that are 0 but at one corner
unfoldable pub alone : Corner → Jet ℤ → CornerNumbers
alone c j d = cond (eqb (corner_index c) (corner_index d)) j (record { height = pos 0; x_slope = pos 0; y_slope = pos 0 })

-- a height, an x-slope and a y-slope of 1
abbrev pub unit_height : Jet ℤ
unit_height = record { height = pos 1; x_slope = pos 0; y_slope = pos 0 }

abbrev pub unit_x : Jet ℤ
unit_x = record { height = pos 0; x_slope = pos 1; y_slope = pos 0 }

abbrev pub unit_y : Jet ℤ
unit_y = record { height = pos 0; x_slope = pos 0; y_slope = pos 1 }

-- the doubled weights of a piece written out in the cell's own r and s: each corner number's row is the piece where that number is 1 and the others are 0
unfoldable pub written : Piece → List (List ℤ)
written k = map (λ n. listed (sibson n k))
    (alone left_top unit_height ∷ alone left_top unit_x ∷ alone left_top unit_y ∷ alone right_top unit_height ∷ alone right_top unit_x ∷ alone right_top unit_y ∷
    alone left_bottom unit_height ∷ alone left_bottom unit_x ∷ alone left_bottom unit_y ∷ alone right_bottom unit_height ∷ alone right_bottom unit_x ∷ alone right_bottom unit_y ∷ [])

-- the sum of the absolute values, over all rows
unfoldable pub sizes : List (List ℤ) → ℕ
sizes [] = 0
sizes (row ∷ rows) = size row + sizes rows

pub record WeightSums : Type 0 where
  -- what is written out gives the piece
  pub gives : (k : Piece) (n : CornerNumbers) → halved (written k) n ≡ sibson n k
  -- the weights of each piece, added without their signs
  pub totals : (sizes (written top) ≡ 108) × (sizes (written right) ≡ 248) × (sizes (written bottom) ≡ 248) × (sizes (written left) ≡ 108)
  -- so they add up to at most 256
  pub sums : (k : Piece) → sizes (written k) ≤ 256
  -- a piece's doubled coefficients, added without their signs, are at most 256 N
  pub coefficients : (n : CornerNumbers) (N : ℕ) → AllWithin N n → (k : Piece) → size (listed (sibson n k)) ≤ 256 * N
