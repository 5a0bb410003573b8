-- The set we read from meets the conditions and has the corner numbers. Assumes nothing.
use mathlib.Core.Path.{◌≡◌, refl, sym, subst, subst₂}
use mathlib.Core.Bool.{Bool}
use lib.Dec.{T}
use lib.IntN.{pos}
use Rattle.element_sibson.specs.Fraction.{ℚ, Positive, positive, whole}
use Rattle.element_sibson.specs.Cubic.{Cell, jet, ◌≋◌}
use Rattle.element_sibson.specs.Piece.{Piece, next, triangle, Corner, left_top, right_top, left_bottom, right_bottom, at}
use Rattle.element_sibson.specs.Conditions.{Meets, Smooth, square_term}
use Rattle.element_sibson.specs.Element.{Nodes, CornerNumbers, corner_numbers, in_order, weights, swap, exchanged, sibson, element}
use Rattle.element_sibson.specs.Theorems.{Has, per_pixel, wholes}
use Rattle.integers.proofs.Polynomial.{#◌, ◌⊗◌}
use Rattle.integers.proofs.Solve.{solve, ◌≐◌}
use Rattle.element_sibson.proofs.Fractions.{≈_refl}
use Rattle.element_sibson.proofs.Finite.{every_piece_lem, every_corner, every_corner_lem, implies, implied}
use Rattle.element_sibson.proofs.Jets.{≋_trans}
use Rattle.element_sibson.proofs.Quote.{evaluated, three}
use Rattle.element_sibson.proofs.QuoteElement.{numbersₑ, elementₑ, sibson_is}
use Rattle.element_sibson.proofs.Meetings.{given, on_line, joins, joined, smooth_at, flat, no_square, has, has_numbers}

abbrev two : Positive
two = positive 2 tt

is : (C : Cell) (s : ℚ) (n : CornerNumbers) (k : Piece) → sibson n k ≡ evaluated (given C s (in_order n)) (elementₑ k) two
is C s n k = sibson_is (pos C.W.number) (pos C.H.number) s.numerator (pos s.denominator.number) n k

-- ---- the conditions

lines : (k : Piece) → T (joins elementₑ k)
unfolding next in_order weights swap exchanged
lines = every_piece_lem (joins elementₑ) tt

smooth : (C : Cell) (n : CornerNumbers) → Smooth C (sibson n)
unfolding Smooth
smooth C n k P h = smooth_at C (sibson n) k (λ s. subst₂ (λ f g. jet C f (on_line k s) ≋ jet C g (on_line k s))
    (sym (is C s n k)) (sym (is C s n (next k))) (joined C elementₑ two (in_order n) k (lines k) s)) P h

edges : (k : Piece) → T (flat elementₑ k)
unfolding in_order weights swap exchanged
edges = every_piece_lem (flat elementₑ) tt

linear : (C : Cell) (n : CornerNumbers) (k : Piece) → square_term k (sibson n k) ≡ pos 0
linear C n k = let z = whole (pos 0) in
    subst (λ f. square_term k f ≡ pos 0) (sym (is C z n k)) (no_square (given C z (in_order n)) elementₑ two k (edges k))

pub meets : (C : Cell) (n : CornerNumbers) → Meets C (sibson n)
meets C n = record { smooth = smooth C n; linear = linear C n }

-- ---- the corners

abbrev reads : Piece → Corner → Bool
reads k c = implies (triangle k (at c)) (has (elementₑ k) two (numbersₑ c) c)

corners : (k : Piece) (c : Corner) → T (reads k c)
unfolding in_order weights swap exchanged
corners k c = every_corner_lem (reads k) (every_piece_lem (λ l. every_corner (reads l)) tt k) c

number_is : (C : Cell) (n : CornerNumbers) (c : Corner) → three (given C (whole (pos 0)) (in_order n)) (numbersₑ c) ≡ n c
unfolding in_order
number_is C n left_top = refl
number_is C n right_top = refl
number_is C n left_bottom = refl
number_is C n right_bottom = refl

pub numbers : (C : Cell) (n : CornerNumbers) → Has C (sibson n) (λ c. per_pixel C (n c))
unfolding Has
numbers C n k c t = let ρ = given C (whole (pos 0)) (in_order n) in
    subst₂ (λ f m. jet C f (at c) ≋ per_pixel C m) (sym (is C (whole (pos 0)) n k)) (number_is C n c)
    (has_numbers C ρ (elementₑ k) two (numbersₑ c) c (implied (triangle k (at c)) (has (elementₑ k) two (numbersₑ c) c) (corners k c) t))

-- W times a slope, over W, is the slope
per_pixel_lem : (C : Cell) (m : Nodes) (c : Corner) → per_pixel C (corner_numbers C m c) ≋ wholes (m c)
unfolding per_pixel corner_numbers wholes
per_pixel_lem C m c = record {
  heights = ≈_refl (whole (m c).height);
  x_slopes = record { crossed = solve 2 (λ w x. w ⊗ x ⊗ # 1 ≐ x ⊗ (# 1 ⊗ w)) tt (pos C.W.number) (m c).x_slope };
  y_slopes = record { crossed = solve 2 (λ h y. h ⊗ y ⊗ # 1 ≐ y ⊗ (# 1 ⊗ h)) tt (pos C.H.number) (m c).y_slope };
}

pub nodes : (C : Cell) (m : Nodes) → Has C (element C m) (λ c. wholes (m c))
unfolding Has element
nodes C m k c t =
    ≋_trans {j = jet C (sibson (corner_numbers C m) k) (at c)} {k = per_pixel C (corner_numbers C m c)} {l = wholes (m c)}
    (numbers C (corner_numbers C m) k c t) (per_pixel_lem C m c)
