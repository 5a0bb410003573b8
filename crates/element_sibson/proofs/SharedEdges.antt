-- On an edge the height is the Hermite cubic of the two nodes, the slope along the edge its derivative, and the slope across it a straight line
-- between theirs. So two cells that share an edge agree along it. Assumes nothing.
use mathlib.Core.Path.{◌≡◌, refl, sym, subst, ap₂}
use Prim.Native.Nat.{ℕ, ◌<◌}
use lib.IntN.{ℤ, pos, neg_ℤ, ◌+ℤ◌, ◌*ℤ◌}
use Rattle.element_sibson.specs.Fraction.{Positive, positive, ℚ, ◌+ℚ◌, ◌-ℚ◌, ◌*ℚ◌, ◌·ℚ◌, ◌÷◌, complement}
use Rattle.element_sibson.specs.Cubic.{Cell, Point, Cubic, by_r, by_s, Jet, jet, ◌≋◌}
use Rattle.element_sibson.specs.Piece.{Piece, top, right, bottom, left, edge, left_top, right_top, left_bottom, right_bottom}
use Rattle.element_sibson.specs.Element.{Nodes, corner_numbers, in_order, weights, weighed, halved, transposed, flipped, mirrored, swap, negate_x, negate_y, exchanged, top_down, left_right, on_top, on_left, sibson, element}
use Rattle.element_sibson.specs.Theorems.{length_of, first, last, AgreeAlong, Edges}
use Rattle.integers.proofs.Polynomial.{Expr, #◌, ◌⊕◌, ◌⊗◌, ⊖◌}
use Rattle.element_sibson.proofs.Fractions.{≈-÷}
use Rattle.element_sibson.proofs.Jets.{≋_sym, ≋_trans}
use Rattle.element_sibson.proofs.Quote.{complementₑ, Quotient, wholeₑ, ◌+ₑ◌, ◌-ₑ◌, ◌*ₑ◌, ◌·ₑ◌, ◌÷ₑ◌, Cubicₑ, by_rₑ, by_sₑ, Jetₑ, decided, jets, evaluated}
use Rattle.element_sibson.proofs.Evaluate.{numerator, cubes, common, value_is, commonₑ}
use Rattle.element_sibson.proofs.QuoteElement.{Cornersₑ, sibsonₑ, numbersₑ}
use Rattle.element_sibson.proofs.Meetings.{Wₑ, Hₑ, tₑ, given}

-- along an edge of length L from node a to node b, the slope along it first
unfoldable pub along : Positive → Jet ℤ → Jet ℤ → ℚ → Jet ℚ
along L a b t = let l = pos L.number in let u = complement t in record {
  height = a.height ·ℚ (u *ℚ u *ℚ (u +ℚ pos 3 ·ℚ t)) +ℚ (l *ℤ a.x_slope) ·ℚ (t *ℚ u *ℚ u)
      +ℚ b.height ·ℚ (t *ℚ t *ℚ (t +ℚ pos 3 ·ℚ u)) +ℚ neg_ℤ (l *ℤ b.x_slope) ·ℚ (t *ℚ t *ℚ u);
  x_slope = ((b.height +ℤ neg_ℤ a.height) ·ℚ (pos 6 ·ℚ (t *ℚ u))) ÷ L +ℚ a.x_slope ·ℚ (u *ℚ (u -ℚ pos 2 ·ℚ t)) +ℚ b.x_slope ·ℚ (t *ℚ (t -ℚ pos 2 ·ℚ u));
  y_slope = a.y_slope ·ℚ u +ℚ b.y_slope ·ℚ t;
}

unfoldable pub on_edge : Piece → Positive → Jet ℤ → Jet ℤ → ℚ → Jet ℚ
on_edge top L a b t = along L a b t
on_edge right L a b t = swap (along L (swap a) (swap b) t)
on_edge bottom L a b t = along L a b t
on_edge left L a b t = swap (along L (swap a) (swap b) t)

-- ---- heights and slopes with every value over one denominator

abbrev common_jet : Cell → Cubic → Point → Jet ℚ
common_jet C f P = record { height = common f P; x_slope = common (by_r f) P ÷ C.W; y_slope = common (by_s f) P ÷ C.H }

by_common : (C : Cell) (f : Cubic) (P : Point) {j : Jet ℚ} → common_jet C f P ≋ j → jet C f P ≋ j
unfolding jet
by_common C f P {j} e = ≋_trans {j = jet C f P} {k = common_jet C f P} {l = j} is e
  where
    is : jet C f P ≋ common_jet C f P
    is = record { heights = value_is f P; x_slopes = ≈-÷ C.W (value_is (by_r f) P); y_slopes = ≈-÷ C.H (value_is (by_s f) P) }

-- ---- the same, quoted

abbrev common_jetₑ : Cubicₑ → Quotient → Quotient → Jetₑ
common_jetₑ f r s = record { height = commonₑ f r s; x_slope = commonₑ (by_rₑ f) r s ÷ₑ Wₑ; y_slope = commonₑ (by_sₑ f) r s ÷ₑ Hₑ }

abbrev alongₑ : Expr → Jet Expr → Jet Expr → Quotient → Jetₑ
alongₑ l a b t = let u = complementₑ t in record {
  height = a.height ·ₑ (u *ₑ u *ₑ (u +ₑ # 3 ·ₑ t)) +ₑ (l ⊗ a.x_slope) ·ₑ (t *ₑ u *ₑ u)
      +ₑ b.height ·ₑ (t *ₑ t *ₑ (t +ₑ # 3 ·ₑ u)) +ₑ ⊖ (l ⊗ b.x_slope) ·ₑ (t *ₑ t *ₑ u);
  x_slope = ((b.height ⊕ ⊖ a.height) ·ₑ (# 6 ·ₑ (t *ₑ u))) ÷ₑ l +ₑ a.x_slope ·ₑ (u *ₑ (u -ₑ # 2 ·ₑ t)) +ₑ b.x_slope ·ₑ (t *ₑ (t -ₑ # 2 ·ₑ u));
  y_slope = a.y_slope ·ₑ u +ₑ b.y_slope ·ₑ t;
}

abbrev downₑ : Jet Expr → Jet Expr → Jetₑ
downₑ a b = swap (alongₑ Hₑ (swap a) (swap b) tₑ)

abbrev nodesₑ : Cornersₑ
nodesₑ c = record { height = (numbersₑ c).height; x_slope = Wₑ ⊗ (numbersₑ c).x_slope; y_slope = Hₑ ⊗ (numbersₑ c).y_slope }

abbrev edgeₑ : Piece → Jetₑ
edgeₑ top = common_jetₑ (sibsonₑ nodesₑ top) tₑ (wholeₑ (# 0))
edgeₑ right = common_jetₑ (sibsonₑ nodesₑ right) (wholeₑ (# 1)) tₑ
edgeₑ bottom = common_jetₑ (sibsonₑ nodesₑ bottom) tₑ (wholeₑ (# 1))
edgeₑ left = common_jetₑ (sibsonₑ nodesₑ left) (wholeₑ (# 0)) tₑ

abbrev on_edgeₑ : Piece → Jetₑ
on_edgeₑ top = alongₑ Wₑ (numbersₑ left_top) (numbersₑ right_top) tₑ
on_edgeₑ right = downₑ (numbersₑ right_top) (numbersₑ right_bottom)
on_edgeₑ bottom = alongₑ Wₑ (numbersₑ left_bottom) (numbersₑ right_bottom) tₑ
on_edgeₑ left = downₑ (numbersₑ left_top) (numbersₑ left_bottom)

-- the set for nodes, by its quotation
nodes_are : (C : Cell) (m : Nodes) (k : Piece) (t : ℚ) → element C m k ≡ evaluated (given C t (in_order m)) (sibsonₑ nodesₑ k) (positive 2 tt)
unfolding in_order weights weighed halved transposed flipped mirrored swap negate_x negate_y exchanged top_down left_right on_top on_left sibson element corner_numbers
nodes_are C m top t = refl
nodes_are C m right t = refl
nodes_are C m bottom t = refl
nodes_are C m left t = refl

on_edge_lem : (C : Cell) (m : Nodes) (k : Piece) (t : ℚ) →
    jet C (evaluated (given C t (in_order m)) (sibsonₑ nodesₑ k) (positive 2 tt)) (edge k t) ≋ on_edge k (length_of C k) (m (first k)) (m (last k)) t
unfolding numerator cubes by_r by_s in_order weights swap exchanged on_edge along
on_edge_lem C m top t = by_common C _ (edge top t) (jets (decided (edgeₑ top) (on_edgeₑ top) tt (given C t (in_order m))))
on_edge_lem C m right t = by_common C _ (edge right t) (jets (decided (edgeₑ right) (on_edgeₑ right) tt (given C t (in_order m))))
on_edge_lem C m bottom t = by_common C _ (edge bottom t) (jets (decided (edgeₑ bottom) (on_edgeₑ bottom) tt (given C t (in_order m))))
on_edge_lem C m left t = by_common C _ (edge left t) (jets (decided (edgeₑ left) (on_edgeₑ left) tt (given C t (in_order m))))

on_edges : (C : Cell) (m : Nodes) (k : Piece) (t : ℚ) → jet C (element C m k) (edge k t) ≋ on_edge k (length_of C k) (m (first k)) (m (last k)) t
on_edges C m k t = subst (λ f. jet C f (edge k t) ≋ on_edge k (length_of C k) (m (first k)) (m (last k)) t) (sym (nodes_are C m k t)) (on_edge_lem C m k t)

-- ---- two cells

-- only the length's number counts
again : (k : Piece) (L : Positive) (a b : Jet ℤ) (t : ℚ) (p : 0 < L.number) → on_edge k L a b t ≋ on_edge k (record { number = L.number; above = p }) a b t
unfolding on_edge along swap
again top L a b t p = jets refl
again right L a b t p = jets refl
again bottom L a b t p = jets refl
again left L a b t p = jets refl

same_length : (k : Piece) (L L' : Positive) (a b : Jet ℤ) (t : ℚ) → L.number ≡ L'.number → on_edge k L a b t ≋ on_edge k L' a b t
same_length k L L' a b t e =
    subst (λ (l : ℕ). (p : 0 < l) → on_edge k L a b t ≋ on_edge k (record { number = l; above = p }) a b t) e (λ p. again k L a b t p) L'.above

-- the same piece, or two pieces whose edges run alike
agree_along : (k l : Piece) → ((L : Positive) (a b : Jet ℤ) (t : ℚ) → on_edge k L a b t ≡ on_edge l L a b t) → AgreeAlong k l
unfolding AgreeAlong
agree_along k l alike C D m n e t =
    ≋_trans {j = jet C (element C m k) (edge k t)} {k = here (m (first k)) (m (last k)) (length_of C k)} {l = jet D (element D n l) (edge l t)} (on_edges C m k t)
    (subst (λ j. j ≋ jet D (element D n l) (edge l t)) nodes
    (≋_trans {j = here (n (first l)) (n (last l)) (length_of C k)} {k = here (n (first l)) (n (last l)) (length_of D l)} {l = jet D (element D n l) (edge l t)}
    (same_length k (length_of C k) (length_of D l) (n (first l)) (n (last l)) t e.lengths)
    (subst (λ j. j ≋ jet D (element D n l) (edge l t)) (sym (alike (length_of D l) (n (first l)) (n (last l)) t)) (≋_sym (on_edges D n l t)))))
  where
    here : Jet ℤ → Jet ℤ → Positive → Jet ℚ
    here a b L = on_edge k L a b t

    nodes : here (n (first l)) (n (last l)) (length_of C k) ≡ here (m (first k)) (m (last k)) (length_of C k)
    nodes = ap₂ (λ a b. on_edge k (length_of C k) a b t) (sym e.firsts) (sym e.lasts)

pub edges : Edges
unfolding on_edge
edges = record {
  side_by_side = agree_along right left (λ L a b t. refl);
  one_above_the_other = agree_along bottom top (λ L a b t. refl);
  own_nodes = λ k. agree_along k k (λ L a b t. refl);
}
