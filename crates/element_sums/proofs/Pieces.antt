-- The cubics of a cell are linear in its corner numbers: those that are added give cubics that are added. Assumes nothing.
use mathlib.Core.Path.{◌≡◌, refl, sym, ◌∙◌, ap, ap₂, subst, subst⁻¹}
use mathlib.Core.List.{List, [], ◌∷◌, map}
use lib.ListN.{get_or}
use lib.IntN.{ℤ, pos, ◌+ℤ◌, ◌*ℤ◌}
use Rattle.integers.proofs.RingLaws.{*ℤ_distrib_l}
use Rattle.integers.proofs.Polynomial.{#◌, ◌⊕◌, ◌⊗◌}
use Rattle.integers.proofs.Solve.{◌≐◌, solve}
use Rattle.integers.proofs.Deduce.{◌·◌, ◌⊨◌, deduce}
use Rattle.element_sibson.specs.Fraction.{Positive, positive}
use Rattle.element_sibson.specs.Cubic.{Cell, Cubic, Power, coefficient, cubic_of, Jet}
use Rattle.element_sibson.specs.Piece.{Piece, Corner}
use Rattle.element_sibson.specs.Element.{Nodes, CornerNumbers, corner_numbers, in_order, column, weighed, halved, sibson, element}
use Rattle.element_sibson.proofs.Coefficients.{coefficient_of}
use Rattle.element_readings.specs.WeightSums.{written}
use Rattle.element_readings.proofs.WeightSums.{gives}
use Rattle.element_sums.specs.Sums.{together, SumOf}

-- coefficients that are added, over one divisor
added : (a b c : Power → ℤ) (d : Positive) → ((p : Power) → c p ≡ a p +ℤ b p) → SumOf (cubic_of a d) (cubic_of b d) (cubic_of c d)
added a b c d e = record {
  coefficients = λ p. record {
    crossed = deduce 4 (λ x y z d. (d ⊗ d · (z ≐ x ⊕ y)) ∷ [] ⊨ z ⊗ (# 1 ⊗ d ⊗ (# 1 ⊗ d)) ≐ (x ⊗ (# 1 ⊗ d) ⊕ y ⊗ (# 1 ⊗ d)) ⊗ (# 1 ⊗ d)) tt
        (coefficient (cubic_of a d) p) (coefficient (cubic_of b d) p) (coefficient (cubic_of c d) p) (pos d.number)
        (coefficient_of c d p ∙ e p ∙ sym (ap₂ (λ x y. x +ℤ y) (coefficient_of a d p) (coefficient_of b d p)));
  };
}

-- numbers in pairs, weighed
weighed_plus : (table : List (List ℤ)) (xs : List (ℤ × ℤ)) (p : Power) →
    weighed table (map (λ x. x.0 +ℤ x.1) xs) p ≡ weighed table (map (λ x. x.0) xs) p +ℤ weighed table (map (λ x. x.1) xs) p
unfolding weighed
weighed_plus [] xs p = refl
weighed_plus (row ∷ rows) [] p = refl
weighed_plus (row ∷ rows) (x ∷ xs) p = let w = get_or row (column p) (pos 0) in
    ap (λ t. w *ℤ (x.0 +ℤ x.1) +ℤ t) (weighed_plus rows xs p)
    ∙ solve 5 (λ w x y s t. w ⊗ (x ⊕ y) ⊕ (s ⊕ t) ≐ w ⊗ x ⊕ s ⊕ (w ⊗ y ⊕ t)) tt
    w x.0 x.1 (weighed rows (map (λ x. x.0) xs) p) (weighed rows (map (λ x. x.1) xs) p)

abbrev paired : CornerNumbers → CornerNumbers → Corner → Jet (ℤ × ℤ)
paired m n c = record { height = ((m c).height, (n c).height); x_slope = ((m c).x_slope, (n c).x_slope); y_slope = ((m c).y_slope, (n c).y_slope) }

halved_plus : (table : List (List ℤ)) (m n : CornerNumbers) → SumOf (halved table m) (halved table n) (halved table (together m n))
unfolding halved in_order together
halved_plus table m n = added (λ p. weighed table (in_order m) p) (λ p. weighed table (in_order n) p) (λ p. weighed table (in_order (together m n)) p)
    (positive 2 tt) (λ p. weighed_plus table (in_order (paired m n)) p)

pub pieces : (m n : CornerNumbers) (k : Piece) → SumOf (sibson m k) (sibson n k) (sibson (together m n) k)
pieces m n k = subst (λ (f : CornerNumbers → Cubic). SumOf (f m) (f n) (f (together m n))) (λ i l. gives k l i) (halved_plus (written k) m n)

corner_numbers_lem : (C : Cell) (m n : Nodes) → corner_numbers C (together m n) ≡ together (corner_numbers C m) (corner_numbers C n)
unfolding corner_numbers together
corner_numbers_lem C m n = λ i c. record {
  height = (m c).height +ℤ (n c).height;
  x_slope = *ℤ_distrib_l (pos C.W.number) (m c).x_slope (n c).x_slope i;
  y_slope = *ℤ_distrib_l (pos C.H.number) (m c).y_slope (n c).y_slope i;
}

pub elements : (C : Cell) (m n : Nodes) (k : Piece) → SumOf (element C m k) (element C n k) (element C (together m n) k)
unfolding element
elements C m n k = subst⁻¹ (λ l. SumOf (element C m k) (element C n k) (sibson l k)) (corner_numbers_lem C m n) (pieces (corner_numbers C m) (corner_numbers C n) k)
