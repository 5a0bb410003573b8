-- What is read at the corners of a cell: the nodes' own numbers. Assumes nothing.
use Rattle.std.specs.Prelude.{◌≡◌, T}
use Rattle.element_sibson.specs.Cubic.{Cell, Point, pixel, jet, ◌≋◌}
use Rattle.element_sibson.specs.Piece.{Piece, triangle, Corner, left_top, right_top, left_bottom, right_bottom}
use Rattle.element_sibson.specs.Element.{Nodes, CornerNumbers, sibson, element}
use Rattle.element_sibson.specs.Theorems.{per_pixel}
use Rattle.element_readings.specs.Reading.{level_of, tilt_x_of, tilt_y_of}
use Rattle.element_readings.specs.CornerWeights.{IsAt}

-- at a corner, from both pieces that touch it
pub record AtCorners : Type 0 where
  -- a cell's corners are pixels of it
  pub pixels : (C : Cell) → IsAt left_top (pixel C 0 0) × IsAt right_top (pixel C C.W.number 0) × IsAt left_bottom (pixel C 0 C.H.number)
      × IsAt right_bottom (pixel C C.W.number C.H.number)
  -- height and slopes are exactly the corner's
  pub numbers : (C : Cell) (n : CornerNumbers) (k : Piece) (c : Corner) (P : Point) → T (triangle k P) → IsAt c P → jet C (sibson n k) P ≋ per_pixel C (n c)
  -- so the level is its height, and the tilt a node's slopes
  pub levels : (C : Cell) (n : CornerNumbers) (k : Piece) (c : Corner) (P : Point) → T (triangle k P) → IsAt c P → level_of C (sibson n k) P ≡ (n c).height
  pub node_levels : (C : Cell) (m : Nodes) (k : Piece) (c : Corner) (P : Point) → T (triangle k P) → IsAt c P → level_of C (element C m k) P ≡ (m c).height
  pub node_tilts_x : (C : Cell) (m : Nodes) (k : Piece) (c : Corner) (P : Point) → T (triangle k P) → IsAt c P → tilt_x_of C (element C m k) P ≡ (m c).x_slope
  pub node_tilts_y : (C : Cell) (m : Nodes) (k : Piece) (c : Corner) (P : Point) → T (triangle k P) → IsAt c P → tilt_y_of C (element C m k) P ≡ (m c).y_slope
