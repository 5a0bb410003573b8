-- What is shown of the element on one cell: it is unique, it exists, and on an edge it depends on that edge's two nodes only. Assumes nothing.
use Rattle.std.specs.Prelude.{◌≡◌, ◌↔◌, T, ℤ}
use Rattle.element_sibson.specs.Fraction.{Positive, ℚ, whole, ◌÷◌}
use Rattle.element_sibson.specs.Cubic.{Cell, Jet, jet, ◌≋◌}
use Rattle.element_sibson.specs.Piece.{Piece, top, right, bottom, left, FourCubics, triangle, edge, Corner, left_top, right_top, left_bottom, right_bottom, at}
use Rattle.element_sibson.specs.Conditions.{Meets, SameCorners, Equal}
use Rattle.element_sibson.specs.Element.{Nodes, CornerNumbers, sibson, element}

-- two sets that meet the conditions are equal exactly when they have the same height and slopes at the four corners
pub record Uniqueness : Type 0 where
  pub exactly : (C : Cell) (S S' : FourCubics) → Meets C S → Meets C S' → (Equal S S' ↔ SameCorners C S S')

-- a height in grains and slopes in grains per pixel, as fractions: of corner numbers, and of whole numbers such as a node's
unfoldable pub per_pixel : Cell → Jet ℤ → Jet ℚ
per_pixel C n = record { height = whole n.height; x_slope = whole n.x_slope ÷ C.W; y_slope = whole n.y_slope ÷ C.H }

unfoldable pub wholes : Jet ℤ → Jet ℚ
wholes m = record { height = whole m.height; x_slope = whole m.x_slope; y_slope = whole m.y_slope }

-- the set has these heights and slopes at the corners, in both pieces that touch each
unfoldable pub Has : Cell → FourCubics → (Corner → Jet ℚ) → Type 0
Has C S j = (k : Piece) (c : Corner) → T (triangle k (at c)) → jet C (S k) (at c) ≋ j c

-- the set we read from meets the conditions and has the corner numbers, and every set that does is equal to it
pub record Existence : Type 0 where
  pub meets : (C : Cell) (n : CornerNumbers) → Meets C (sibson n)
  pub numbers : (C : Cell) (n : CornerNumbers) → Has C (sibson n) (λ c. per_pixel C (n c))
  pub only : (C : Cell) (n : CornerNumbers) (S : FourCubics) → Meets C S → Has C S (λ c. per_pixel C (n c)) → Equal S (sibson n)
  -- the same for a cell's nodes
  pub meets_nodes : (C : Cell) (m : Nodes) → Meets C (element C m)
  pub nodes : (C : Cell) (m : Nodes) → Has C (element C m) (λ c. wholes (m c))
  pub only_nodes : (C : Cell) (m : Nodes) (S : FourCubics) → Meets C S → Has C S (λ c. wholes (m c)) → Equal S (element C m)

-- the length of a piece's edge, and the corners at its left or top end and at its right or bottom end
abbrev pub length_of : Cell → Piece → Positive
length_of C top = C.W
length_of C right = C.H
length_of C bottom = C.W
length_of C left = C.H

abbrev pub first : Piece → Corner
first top = left_top
first right = right_top
first bottom = left_bottom
first left = left_top

abbrev pub last : Piece → Corner
last top = right_top
last right = right_bottom
last bottom = right_bottom
last left = left_bottom

-- cells C and D with nodes m and m': D's edge l is C's edge k, with the same length and the same nodes at its ends
pub record SharedEdge (C D : Cell) (m m' : Nodes) (k l : Piece) : Type 0 where
  pub lengths : (length_of C k).number ≡ (length_of D l).number
  pub firsts : m (first k) ≡ m' (first l)
  pub lasts : m (last k) ≡ m' (last l)

-- the two pieces on it have the same height, x-slope and y-slope at every point
unfoldable pub AgreeAlong : Piece → Piece → Type 0
AgreeAlong k l = (C D : Cell) (m m' : Nodes) → SharedEdge C D m m' k l → (t : ℚ) → jet C (element C m k) (edge k t) ≋ jet D (element D m' l) (edge l t)

pub record Edges : Type 0 where
  -- cells side by side, and one above the other, whatever their other nodes and their sizes across the edge
  pub side_by_side : AgreeAlong right left
  pub one_above_the_other : AgreeAlong bottom top
  -- the same piece of two cells: only the edge's two nodes count
  pub own_nodes : (k : Piece) → AgreeAlong k k
