-- A cell's corner numbers: the order of the corners, how the code holds the twelve, four arrays of three, and how large they are. Assumes nothing.
use Rattle.std.specs.Prelude.{List, [], ◌∷◌, ℕ, ℤ, pos, get_or}
use Rattle.integers.specs.Within.{◌within◌}
use Rattle.element_sibson.specs.Cubic.{Cell, Jet}
use Rattle.element_sibson.specs.Piece.{Corner, left_top, right_top, left_bottom, right_bottom}
use Rattle.element_sibson.specs.Element.{Nodes, CornerNumbers, corner_numbers}

-- ---- how the code holds them

-- a corner's index in the order of 01: 00, 10, 01, 11
abbrev pub corner_index : Corner → ℕ
corner_index left_top = 0
corner_index right_top = 1
corner_index left_bottom = 2
corner_index right_bottom = 3

-- a corner's three: height, x-slope, y-slope
unfoldable pub jet_of : List ℤ → Jet ℤ
jet_of l = record { height = get_or l 0 (pos 0); x_slope = get_or l 1 (pos 0); y_slope = get_or l 2 (pos 0) }

-- the twelve that four arrays hold: corner c of them
unfoldable pub corners : List (List ℤ) → Corner → Jet ℤ
corners n c = jet_of (get_or n (corner_index c) [])

-- and back: three numbers as an array, and the four arrays
unfoldable pub three : Jet ℤ → List ℤ
three j = j.height ∷ j.x_slope ∷ j.y_slope ∷ []

unfoldable pub arrays : (Corner → Jet ℤ) → List (List ℤ)
arrays n = three (n left_top) ∷ three (n right_top) ∷ three (n left_bottom) ∷ three (n right_bottom) ∷ []

-- the corner numbers of one node, at whichever corner it is
unfoldable pub numbers_of : Cell → Jet ℤ → Jet ℤ
numbers_of C m = corner_numbers C (λ c. m) left_top

-- ---- how large they are

-- the largest corner number: 4,095 steps of 64 grains, or 64 pixels times a slope of 4,095
abbrev pub largest : ℕ
largest = 262080

-- every corner number is within N
pub record AllWithin (N : ℕ) (n : CornerNumbers) : Type 0 where
  pub heights : (c : Corner) → (n c).height within N
  pub x_slopes : (c : Corner) → (n c).x_slope within N
  pub y_slopes : (c : Corner) → (n c).y_slope within N

-- nodes as sheets have them: heights within 4,095 steps of 64 grains, slopes within 4,095 grains per pixel
pub record Measured (m : Nodes) : Type 0 where
  pub heights : (c : Corner) → (m c).height within largest
  pub x_slopes : (c : Corner) → (m c).x_slope within 4095
  pub y_slopes : (c : Corner) → (m c).y_slope within 4095
