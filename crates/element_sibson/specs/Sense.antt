-- That the definitions mean what they say: derivatives, turnings, linear slopes, pieces. Assumes nothing.
use Rattle.std.specs.Prelude.{◌≡◌, ◌↔◌, ℕ, ◌+◌, ◌≤◌, T, ℤ, pos, ◌+ℤ◌, ◌*ℤ◌, ◌≤ℤ◌}
use Rattle.element_sibson.specs.Fraction.{Positive, ℚ, ◌≈◌, ◌≤ℚ◌, leℚ, ◌<ℚ◌, ◌+ℚ◌, ◌*ℚ◌, ◌·ℚ◌, ◌÷◌, ◌-ℚ◌, positive, whole, half, complement}
use Rattle.element_sibson.specs.Cubic.{Cell, Point, pixel, Cubic, ◌≅◌, value, by_r, by_s, jet, ◌≋◌, bend}
use Rattle.element_sibson.specs.Piece.{Piece, top, right, bottom, left, number, next, FourCubics, InCell, triangle, piece_at, HalfDiagonal, edge}
use Rattle.element_sibson.specs.Conditions.{square_term, Smooth}
use Rattle.element_sibson.specs.Element.{CornerNumbers, transposed, flipped, mirrored, exchanged, top_down, left_right, sibson}

-- fractions: equality is an equivalence that sums and products respect, which are those of whole numbers and distribute; multiples, quotients, differences,
-- order and test are what they are called
pub record FractionLaws : Type 0 where
  pub reflexive : (x : ℚ) → x ≈ x
  pub symmetric : (x y : ℚ) → x ≈ y → y ≈ x
  pub transitive : (x y z : ℚ) → x ≈ y → y ≈ z → x ≈ z
  pub distinct : ¬ (whole (pos 0) ≈ whole (pos 1))
  pub sums : (x x' y y' : ℚ) → x ≈ x' → y ≈ y' → x +ℚ y ≈ x' +ℚ y'
  pub products : (x x' y y' : ℚ) → x ≈ x' → y ≈ y' → x *ℚ y ≈ x' *ℚ y'
  pub whole_sums : (a b : ℤ) → whole (a +ℤ b) ≈ whole a +ℚ whole b
  pub whole_products : (a b : ℤ) → whole (a *ℤ b) ≈ whole a *ℚ whole b
  pub distributive : (x y z : ℚ) → x *ℚ (y +ℚ z) ≈ x *ℚ y +ℚ x *ℚ z
  pub multiples : (c : ℤ) (x : ℚ) → c ·ℚ x ≈ whole c *ℚ x
  pub quotients : (x : ℚ) (n : Positive) → x ÷ n *ℚ whole (pos n.number) ≈ x
  pub differences : (x y : ℚ) → x -ℚ y +ℚ y ≈ x
  pub halves : half +ℚ half ≈ whole (pos 1)
  pub order : (x y : ℚ) → (x ≈ y) ↔ ((x ≤ℚ y) × (y ≤ℚ x))
  pub tests : (x y : ℚ) → T (leℚ x y) ↔ (x ≤ℚ y)
  pub transitive_order : (x y z : ℚ) → x ≤ℚ y → y ≤ℚ z → x ≤ℚ z
  -- it is the order of whole numbers, and a divisor keeps it, both ways: so a/p ≤ b/q is aq ≤ bp
  pub whole_order : (a b : ℤ) → (whole a ≤ℚ whole b) ↔ (a ≤ℤ b)
  pub quotient_order : (x y : ℚ) (n : Positive) → (x ≤ℚ y) ↔ (x ÷ n ≤ℚ y ÷ n)
  pub sum_order : (x y z : ℚ) → x ≤ℚ y → x +ℚ z ≤ℚ y +ℚ z
  pub strict_order : (x y : ℚ) → (x <ℚ y) ↔ (¬ (y ≤ℚ x))

-- equal cubics are those with the same value at every point
pub record SameValues : Type 0 where
  pub everywhere : (f g : Cubic) → (f ≅ g) ↔ ((P : Point) → value f P ≈ value g P)

-- x + h x' + h² (x''/2 + h x'''/6)
unfoldable pub expansion : ℚ → ℚ → ℚ → ℚ → ℚ → ℚ
expansion x x' x'' x''' h = x +ℚ h *ℚ x' +ℚ h *ℚ h *ℚ (x'' ÷ positive 2 tt +ℚ h *ℚ (x''' ÷ positive 6 tt))

-- h pixels to the right of a point, and below it
abbrev pub right_of : Cell → Point → ℚ → Point
right_of C P h = record { r = P.r +ℚ h ÷ C.W; s = P.s }

abbrev pub below : Cell → Point → ℚ → Point
below C P h = record { r = P.r; s = P.s +ℚ h ÷ C.H }

-- the derivatives are derivatives: f(r + h, s) is f(r, s) with h times the derivative and h² times a polynomial, for every cubic, so also for a derivative;
-- slopes and bends are so too, per pixel, the mixed one as that of either slope
pub record Derivatives : Type 0 where
  pub along_r : (f : Cubic) (P : Point) (h : ℚ) →
      value f (record { r = P.r +ℚ h; s = P.s }) ≈ expansion (value f P) (value (by_r f) P) (value (by_r (by_r f)) P) (value (by_r (by_r (by_r f))) P) h
  pub along_s : (f : Cubic) (P : Point) (h : ℚ) →
      value f (record { r = P.r; s = P.s +ℚ h }) ≈ expansion (value f P) (value (by_s f) P) (value (by_s (by_s f)) P) (value (by_s (by_s (by_s f))) P) h
  pub heights_along_x : (C : Cell) (f : Cubic) (P : Point) (h : ℚ) → (jet C f (right_of C P h)).height
      ≈ expansion (jet C f P).height (jet C f P).x_slope (bend C f P).xx (value (by_r (by_r (by_r f))) P ÷ C.W ÷ C.W ÷ C.W) h
  pub heights_along_y : (C : Cell) (f : Cubic) (P : Point) (h : ℚ) → (jet C f (below C P h)).height
      ≈ expansion (jet C f P).height (jet C f P).y_slope (bend C f P).yy (value (by_s (by_s (by_s f))) P ÷ C.H ÷ C.H ÷ C.H) h
  pub x_slopes_along_y : (C : Cell) (f : Cubic) (P : Point) (h : ℚ) → (jet C f (below C P h)).x_slope
      ≈ expansion (jet C f P).x_slope (bend C f P).xy
      (value (by_s (by_s (by_r f))) P ÷ C.W ÷ C.H ÷ C.H) (value (by_s (by_s (by_s (by_r f)))) P ÷ C.W ÷ C.H ÷ C.H ÷ C.H) h
  pub y_slopes_along_x : (C : Cell) (f : Cubic) (P : Point) (h : ℚ) → (jet C f (right_of C P h)).y_slope
      ≈ expansion (jet C f P).y_slope (bend C f P).xy
      (value (by_r (by_r (by_s f))) P ÷ C.H ÷ C.W ÷ C.W) (value (by_r (by_r (by_r (by_s f)))) P ÷ C.H ÷ C.W ÷ C.W ÷ C.W) h
  -- by r and then by s is by s and then by r
  pub mixed : (f : Cubic) (P : Point) → value (by_s (by_r f)) P ≈ value (by_r (by_s f)) P
  -- one pixel on from a pixel is the next
  pub pixels : (C : Cell) (a b : ℕ) →
      ((right_of C (pixel C a b) (whole (pos 1))).r ≈ (pixel C (a + 1) b).r) × ((below C (pixel C a b) (whole (pos 1))).s ≈ (pixel C a (b + 1)).s)

-- a turned cubic is the cubic at the turned point, and so for the set we read from
pub record Turnings : Type 0 where
  pub transposing : (f : Cubic) (P : Point) → value (transposed f) P ≈ value f (record { r = P.s; s = P.r })
  pub flipping : (f : Cubic) (P : Point) → value (flipped f) P ≈ value f (record { r = P.r; s = complement P.s })
  pub mirroring : (f : Cubic) (P : Point) → value (mirrored f) P ≈ value f (record { r = complement P.r; s = P.s })
  pub left_of_top : (n : CornerNumbers) (P : Point) → value (sibson n left) P ≈ value (sibson (exchanged n) top) (record { r = P.s; s = P.r })
  pub bottom_of_top : (n : CornerNumbers) (P : Point) → value (sibson n bottom) P ≈ value (sibson (top_down n) top) (record { r = P.r; s = complement P.s })
  pub right_of_left : (n : CornerNumbers) (P : Point) → value (sibson n right) P ≈ value (sibson (left_right n) left) (record { r = complement P.r; s = P.s })

-- the slope across a piece's edge
unfoldable pub cross_slope : Cell → Piece → Cubic → Point → ℚ
cross_slope C top f P = (jet C f P).y_slope
cross_slope C right f P = (jet C f P).x_slope
cross_slope C bottom f P = (jet C f P).y_slope
cross_slope C left f P = (jet C f P).x_slope

-- it goes in a straight line from the edge's first end to its last
unfoldable pub Straight : Cell → Piece → Cubic → Type 0
Straight C k f = (t : ℚ) → whole (pos 0) ≤ℚ t → t ≤ℚ whole (pos 1) →
    cross_slope C k f (edge k t)
    ≈ complement t *ℚ cross_slope C k f (edge k (whole (pos 0))) +ℚ t *ℚ cross_slope C k f (edge k (whole (pos 1)))

-- no square term is linearity at all points of the edge
pub record Linearity : Type 0 where
  pub straight : (C : Cell) (k : Piece) (f : Cubic) → (square_term k f ≡ pos 0) ↔ Straight C k f

-- two pieces that share a point are the same, or share a half diagonal there, or the point is the centre, where all four meet
pub data Sharing (k l : Piece) (P : Point) : Type 0 where
  same : k ≡ l → Sharing k l P
  with_next : l ≡ next k → HalfDiagonal k P → Sharing k l P
  with_previous : k ≡ next l → HalfDiagonal l P → Sharing k l P
  at_centre : ((j : Piece) → HalfDiagonal j P) → Sharing k l P

pub record Covering : Type 0 where
  -- the pieces by their numbers, and 01's bounds of each within those of the cell
  pub numbers : (number top ≡ 0) × (number right ≡ 1) × (number bottom ≡ 2) × (number left ≡ 3)
  pub of_top : (P : Point) → T (triangle top P) ↔ ((P.s ≤ℚ P.r) × (P.s ≤ℚ complement P.r))
  pub of_right : (P : Point) → T (triangle right P) ↔ ((P.s ≤ℚ P.r) × (complement P.s ≤ℚ P.r))
  pub of_bottom : (P : Point) → T (triangle bottom P) ↔ ((P.r ≤ℚ P.s) × (complement P.r ≤ℚ P.s))
  pub of_left : (P : Point) → T (triangle left P) ↔ ((P.r ≤ℚ P.s) × (P.r ≤ℚ complement P.s))
  pub of_cell : (P : Point) → InCell P ↔ ((whole (pos 0) ≤ℚ P.r) × (P.r ≤ℚ whole (pos 1)) × (whole (pos 0) ≤ℚ P.s) × (P.s ≤ℚ whole (pos 1)))
  -- every point is in its piece, which has the lowest number of those that hold it
  pub covers : (P : Point) → T (triangle (piece_at P) P)
  pub lowest : (P : Point) (k : Piece) → T (triangle k P) → number (piece_at P) ≤ number k
  -- a half diagonal is exactly where two neighbouring triangles of the cell meet
  pub meeting : (k : Piece) (P : Point) → HalfDiagonal k P ↔ (InCell P × T (triangle k P) × T (triangle (next k) P))
  pub shared : (P : Point) → InCell P → (k l : Piece) → T (triangle k P) → T (triangle l P) → Sharing k l P
  -- so a set is smooth exactly when its pieces agree wherever they meet
  pub agree : (C : Cell) (S : FourCubics) → Smooth C S ↔
      ((P : Point) → InCell P → (k l : Piece) → T (triangle k P) → T (triangle l P) → jet C (S k) P ≋ jet C (S l) P)
