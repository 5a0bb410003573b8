-- At a corner the readings are the corner's own numbers. Assumes nothing.
use lib.Dec.{T}
use lib.IntN.{pos}
use Rattle.integers.proofs.Polynomial.{#◌, ◌⊗◌}
use Rattle.integers.proofs.Solve.{◌≐◌, solve}
use Rattle.element_sibson.specs.Fraction.{Positive, ℚ, ◌≈◌, ◌≤ℚ◌, whole, ◌÷◌}
use Rattle.element_sibson.specs.Cubic.{Cell, Point, Jet, jet, ◌≋◌}
use Rattle.element_sibson.specs.Piece.{Piece, top, right, bottom, left, FourCubics, triangle, Corner, at}
use Rattle.element_sibson.specs.Element.{Nodes, CornerNumbers, sibson, element}
use Rattle.element_sibson.specs.Theorems.{Has, per_pixel, wholes}
use Rattle.element_sibson.proofs.Fractions.{≈_sym, ≈-÷_none, ≈_complement, ≤_left, ≤_right}
use Rattle.element_sibson.proofs.Jets.{◌≈ₚ◌, jet_at_lem, ≋_trans}
use Rattle.element_sibson.proofs.Covers.{Inside, inside, test}
use Rattle.element_sibson.proofs.Exists.{numbers, nodes}
use Rattle.element_readings.specs.Reading.{level_of, tilt_x_of, tilt_y_of}
use Rattle.element_readings.specs.CornerWeights.{IsAt}
use Rattle.element_readings.specs.AtCorners.{AtCorners}
use Rattle.element_readings.proofs.Rounded.{rounded_whole}

-- ---- a triangle holds the same points, however they are written

moved : {x x' y y' : ℚ} → x ≈ x' → y ≈ y' → x ≤ℚ y → x' ≤ℚ y'
moved e f h = ≤_left (≈_sym e) (≤_right h f)

inside_at : (k : Piece) {P Q : Point} → P ≈ₚ Q → Inside k P → Inside k Q
inside_at top e (h, l) = (moved e.ss e.rs h, moved e.ss (≈_complement e.rs) l)
inside_at right e (h, l) = (moved e.ss e.rs h, moved (≈_complement e.ss) e.rs l)
inside_at bottom e (h, l) = (moved e.rs e.ss h, moved (≈_complement e.rs) e.ss l)
inside_at left e (h, l) = (moved e.rs e.ss h, moved e.rs (≈_complement e.ss) l)

-- ---- what a set has at a corner it has there

has_there : (C : Cell) (S : FourCubics) (j : Corner → Jet ℚ) → Has C S j → (k : Piece) (c : Corner) (P : Point) → T (triangle k P) → IsAt c P → jet C (S k) P ≋ j c
unfolding Has
has_there C S j h k c P t i = let e : P ≈ₚ at c = record { rs = i.across; ss = i.down } in
    ≋_trans {j = jet C (S k) P} {k = jet C (S k) (at c)} {l = j c} (jet_at_lem C (S k) e) (h k c (test k (at c) (inside_at k e (inside k P t))))

at_corner : (C : Cell) (n : CornerNumbers) (k : Piece) (c : Corner) (P : Point) → T (triangle k P) → IsAt c P → jet C (sibson n k) P ≋ per_pixel C (n c)
at_corner C n = has_there C (sibson n) (λ c. per_pixel C (n c)) (numbers C n)

pub at_node_lem : (C : Cell) (m : Nodes) (k : Piece) (c : Corner) (P : Point) → T (triangle k P) → IsAt c P → jet C (element C m k) P ≋ wholes (m c)
at_node_lem C m = has_there C (element C m) (λ c. wholes (m c)) (nodes C m)

-- n/n
itself : (n : Positive) → whole (pos n.number) ÷ n ≈ whole (pos 1)
itself n = record { crossed = solve 1 (λ n. n ⊗ # 1 ≐ # 1 ⊗ (# 1 ⊗ n)) tt (pos n.number) }

pub at_corners : AtCorners
unfolding level_of tilt_x_of tilt_y_of per_pixel wholes
at_corners = record {
  pixels = λ C. (
    record { across = ≈-÷_none C.W; down = ≈-÷_none C.H },
    record { across = itself C.W; down = ≈-÷_none C.H },
    record { across = ≈-÷_none C.W; down = itself C.H },
    record { across = itself C.W; down = itself C.H },
  );
  numbers = at_corner;
  levels = λ C n k c P t i. rounded_whole (at_corner C n k c P t i).heights;
  node_levels = λ C m k c P t i. rounded_whole (at_node_lem C m k c P t i).heights;
  node_tilts_x = λ C m k c P t i. rounded_whole (at_node_lem C m k c P t i).x_slopes;
  node_tilts_y = λ C m k c P t i. rounded_whole (at_node_lem C m k c P t i).y_slopes;
}
