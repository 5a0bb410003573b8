-- Sets that are not 0, have nothing at the corners, and meet all conditions but those along one edge, or along two half diagonals; the others by
-- quarter turns. Assumes nothing.
use mathlib.Core.Path.{◌≡◌, refl, sym, ap, subst}
use mathlib.Core.Bool.{Bool, true, ◌&&◌}
use mathlib.Core.List.{List, [], ◌∷◌}
use Prim.Native.Nat.{◌<◌}
use native.Mathlib.Omega.{arith}
use lib.Dec.{T, ltb, ltb→lt}
use lib.ListN.{get_or}
use lib.IntN.{ℤ, pos, nat_abs}
use Rattle.element_sibson.specs.Fraction.{Positive, positive}
use Rattle.element_sibson.specs.Cubic.{Cell, Cubic, Power, r², s², s³, coefficient, cubic_of, ◌≅◌, jet}
use Rattle.element_sibson.specs.Piece.{Piece, top, right, bottom, left, number, next, FourCubics, triangle, Corner, at}
use Rattle.element_sibson.specs.Conditions.{Smooth, SameCorners, Equal}
use Rattle.element_sibson.specs.Element.{column, +◌, −◌}
use Rattle.element_sibson.specs.Theorems.{per_pixel}
use Rattle.element_needed.specs.Needed.{MeetsSome, Counterexample, Needed}
use Rattle.integers.proofs.Polynomial.{con, #◌, ◌⊗◌}
use Rattle.integers.proofs.Solve.{◌≐◌}
use Rattle.integers.proofs.Deduce.{◌·◌, ◌⊨◌, deduce, both}
use Rattle.element_sibson.proofs.Finite.{every_piece, every_piece_lem, every_corner, every_corner_lem, implies, implied, differs, apart}
use Rattle.element_sibson.proofs.Jets.{≋_sym, ≋_trans, none}
use Rattle.element_sibson.proofs.Quote.{Cubicₑ, cubic_ofₑ}
use Rattle.element_sibson.proofs.Evaluate.{zeroes, zeroes_none, flatₑ}
use Rattle.element_sibson.proofs.Meetings.{joins, joined, smooth_at, flat, no_square, has, has_numbers}
use Rattle.element_sibson.proofs.Coefficients.{coefficient_of, Zero}
use Rattle.element_needed.proofs.Neither.{four_turns, next_apart, Neither, neither, apart_both, next_neither}
use Rattle.element_sibson.proofs.Rotation.{rotated_set, on_side, smooth_rotated, square_rotated, NothingAtCorners, corners_rotated, zero_rotated}

-- ---- sets of whole coefficients, in the powers' order

abbrev unit : Positive
unit = positive 1 tt

abbrev Coefficients : Type 0
Coefficients = Piece → List ℤ

abbrev cubics : Coefficients → FourCubics
cubics c k = cubic_of (λ p. get_or (c k) (column p) (pos 0)) unit

abbrev quoted : Coefficients → Piece → Cubicₑ
quoted c k = cubic_ofₑ (λ p. con (get_or (c k) (column p) (pos 0))) (# 1)

-- the tests of a piece: some half diagonals, some edges, and nothing at the corners that it touches
abbrev bare : Coefficients → Piece → Corner → Bool
bare c k v = implies (triangle k (at v)) (has (quoted c k) unit flatₑ v)

abbrev passes : (Piece → Bool) → (Piece → Bool) → Coefficients → Piece → Bool
passes diagonals edges c k = implies (diagonals k) (joins (quoted c) k) && (implies (edges k) (flat (quoted c) k) && every_corner (bare c k))

-- passed, they show that the conditions hold and nothing is at the corners
module _ (diagonals edges : Piece → Bool) (c : Coefficients) (C : Cell) (t : T (every_piece (passes diagonals edges c))) where
  parts : (k : Piece) → T (implies (diagonals k) (joins (quoted c) k)) × T (implies (edges k) (flat (quoted c) k)) × T (every_corner (bare c k))
  parts k =
      let (a, u) = both (implies (diagonals k) (joins (quoted c) k)) (implies (edges k) (flat (quoted c) k) && every_corner (bare c k)) (every_piece_lem (passes diagonals edges c) t k) in
      let (b, v) = both (implies (edges k) (flat (quoted c) k)) (every_corner (bare c k)) u in (a, b, v)

  meets : MeetsSome (λ k. T (diagonals k)) (λ k. T (edges k)) C (cubics c)
  meets = record {
    smooth = λ k d. smooth_at C (cubics c) k (joined C (quoted c) unit [] k (implied (diagonals k) (joins (quoted c) k) (parts k).0 d));
    linear = λ k e. no_square [] (quoted c) unit k (implied (edges k) (flat (quoted c) k) (parts k).1 e);
  }

  corners : NothingAtCorners C (cubics c)
  unfolding NothingAtCorners
  corners k v s = ≋_trans {j = jet C (cubics c k) (at v)} {k = per_pixel C zeroes} {l = none}
      (has_numbers C [] (quoted c k) unit flatₑ v (implied (triangle k (at v)) (has (quoted c k) unit flatₑ v) (every_corner_lem (bare c k) (parts k).2 v) s)) (zeroes_none C)

-- ---- witnesses

-- not 0, nothing at the corners, and some of the conditions
record Witness (diagonals edges : Piece → Type 0) (C : Cell) : Type 0 where
  D : FourCubics
  meets : MeetsSome diagonals edges C D
  corners : NothingAtCorners C D
  where_not : Piece
  not_zero : ¬ Zero (D where_not)

-- a quarter turn
turned : {diagonals edges diagonals' edges' : Piece → Type 0} {C : Cell} →
    ((k : Piece) → diagonals' k → diagonals (next k)) → ((k : Piece) → edges' k → edges (next k)) → Witness diagonals edges (on_side C) → Witness diagonals' edges' C
unfolding rotated_set
turned {C = C} d e w = record {
  D = rotated_set w.D;
  meets = record {
    smooth = λ k t. smooth_rotated (on_side C) w.D k (w.meets.smooth (next k) (d k t));
    linear = λ k t. square_rotated k (w.D (next k)) (w.meets.linear (next k) (e k t));
  };
  corners = corners_rotated (on_side C) w.D w.corners;
  where_not = next (next (next w.where_not));
  not_zero = λ z. w.not_zero (subst (λ k. Zero (w.D k)) (four_turns w.where_not) (zero_rotated (w.D (next (next (next (next w.where_not))))) z));
}

-- from coefficients that pass the tests, one of which is not 0
exhibit : (diagonals edges : Piece → Bool) (c : Coefficients) → T (every_piece (passes diagonals edges c)) →
    (k : Piece) (p : Power) → T (ltb 0 (nat_abs (coefficient (cubics c k) p))) → (C : Cell) → Witness (λ l. T (diagonals l)) (λ l. T (edges l)) C
unfolding Zero
exhibit diagonals edges c t k p n C = record {
  D = cubics c;
  meets = meets diagonals edges c C t;
  corners = corners diagonals edges c C t;
  where_not = k;
  not_zero = λ z. nonzero (coefficient (cubics c k) p) n (z p);
}
  where
    nonzero : (z : ℤ) → T (ltb 0 (nat_abs z)) → ¬ (z ≡ pos 0)
    nonzero z n e = let h : 0 < nat_abs z = ltb→lt 0 (nat_abs z) n in let o : nat_abs z ≡ 0 = ap nat_abs e in absurd (omega arith)

-- fewer conditions
fewer : {diagonals edges diagonals' edges' : Piece → Type 0} {C : Cell} →
    ((k : Piece) → diagonals' k → diagonals k) → ((k : Piece) → edges' k → edges k) → Witness diagonals edges C → Witness diagonals' edges' C
fewer d e w = record {
  D = w.D;
  meets = record { smooth = λ k t. w.meets.smooth k (d k t); linear = λ k t. w.meets.linear k (e k t) };
  corners = w.corners;
  where_not = w.where_not;
  not_zero = w.not_zero;
}

-- ---- all half diagonals and three edges

abbrev All : Piece → Type 0
All k = Unit {0}

abbrev Not : Piece → Piece → Type 0
Not k l = ¬ (l ≡ k)

abbrev all : Piece → Bool
all k = true

off_top : Coefficients
off_top top = + 0 ∷ + 0 ∷ + 0 ∷ + 0 ∷ − 6 ∷ + 3 ∷ + 0 ∷ + 6 ∷ + 0 ∷ − 1 ∷ []
off_top right = − 1 ∷ + 0 ∷ + 3 ∷ + 3 ∷ − 6 ∷ + 0 ∷ − 2 ∷ + 3 ∷ []
off_top bottom = − 1 ∷ + 0 ∷ + 3 ∷ + 0 ∷ + 0 ∷ − 3 ∷ + 0 ∷ + 0 ∷ + 0 ∷ + 1 ∷ []
off_top left = + 0 ∷ + 0 ∷ + 0 ∷ − 3 ∷ + 0 ∷ + 0 ∷ + 2 ∷ + 3 ∷ []

no_top : (C : Cell) → Witness All (Not top) C
unfolding off_top next number
no_top C = fewer {diagonals = All} {edges = λ l. T (differs top l)} {diagonals' = All} {edges' = Not top} (λ k t. t) (apart top)
    (exhibit all (differs top) off_top tt top s² tt C)

no_next : (k : Piece) → ((C : Cell) → Witness All (Not (next k)) C) → (C : Cell) → Witness All (Not k) C
no_next k w C = turned {diagonals = All} {edges = Not (next k)} (λ l t. t) (λ l t. next_apart t) (w (on_side C))

without_edge : (k : Piece) (C : Cell) → Witness All (Not k) C
unfolding next
without_edge top = no_top
without_edge left = no_next left no_top
without_edge bottom = no_next bottom (no_next left no_top)
without_edge right = no_next right (no_next bottom (no_next left no_top))

-- ---- all edges and two half diagonals

-- s² on the top piece alone
beside_top : Coefficients
beside_top top = + 0 ∷ + 0 ∷ + 0 ∷ + 0 ∷ + 0 ∷ + 1 ∷ []
beside_top right = []
beside_top bottom = []
beside_top left = []

-- on the top and the right piece, which join
across_top : Coefficients
across_top top = + 0 ∷ + 0 ∷ + 0 ∷ + 0 ∷ + 0 ∷ − 3 ∷ + 0 ∷ + 0 ∷ + 3 ∷ + 2 ∷ []
across_top right = − 1 ∷ + 3 ∷ + 0 ∷ − 3 ∷ + 0 ∷ + 0 ∷ + 1 ∷ []
across_top bottom = []
across_top left = []

-- r² on the left piece alone
beside_left : Coefficients
beside_left top = []
beside_left right = []
beside_left bottom = []
beside_left left = + 0 ∷ + 0 ∷ + 0 ∷ + 1 ∷ []

without_left : (k : Piece) → Not left k → (C : Cell) → Witness (λ l. T (neither left k l)) (λ l. T (all l)) C
unfolding beside_top across_top beside_left next number
without_left top n = exhibit (neither left top) all beside_top tt top s² tt
without_left right n = exhibit (neither left right) all across_top tt top s³ tt
without_left bottom n = exhibit (neither left bottom) all beside_left tt left r² tt
without_left left n = absurd (n refl)

no_left : (k : Piece) → Not left k → (C : Cell) → Witness (Neither left k) All C
no_left k n C =
    fewer {diagonals = λ l. T (neither left k l)} {edges = All} {diagonals' = Neither left k} {edges' = All} (apart_both left k) (λ l t. t) (without_left k n C)

both_next : (j : Piece) → ((k : Piece) → Not (next j) k → (C : Cell) → Witness (Neither (next j) k) All C) →
    (k : Piece) → Not j k → (C : Cell) → Witness (Neither j k) All C
both_next j w k n C =
    turned {diagonals = Neither (next j) (next k)} {edges = All} (next_neither j k) (λ l t. t) (w (next k) (next_apart n) (on_side C))

without_both : (j k : Piece) → Not j k → (C : Cell) → Witness (Neither j k) All C
unfolding next
without_both left = no_left
without_both bottom = both_next bottom no_left
without_both right = both_next right (both_next bottom no_left)
without_both top = both_next top (both_next right (both_next bottom no_left))

-- ---- the set that is 0 is the other of each pair

zeros : Coefficients
zeros k = []

no_coefficient : (p : Power) (k : Piece) → coefficient (cubics zeros k) p ≡ pos 0
unfolding zeros
no_coefficient p k = coefficient_of (λ q. pos 0) unit p

zero_of_nothing : (f : Cubic) (k : Piece) (p : Power) → f ≅ cubics zeros k → coefficient f p ≡ pos 0
zero_of_nothing f k p e =
    deduce 3 (λ a z d. (# 1 · (a ⊗ (# 1 ⊗ # 1) ≐ z ⊗ (# 1 ⊗ d))) ∷ (d · (z ≐ # 0)) ∷ [] ⊨ a ≐ # 0) tt
    (coefficient f p) (coefficient (cubics zeros k) p) (pos f.divisor.number) (e.coefficients p).crossed (no_coefficient p k)

zeros_pass : T (every_piece (passes all all zeros))
unfolding zeros next
zeros_pass = tt

counterexample : {diagonals edges : Piece → Type 0} {C : Cell} → Witness diagonals edges C → Counterexample diagonals edges C
unfolding SameCorners NothingAtCorners Equal Zero
counterexample {C = C} w = let m = meets all all zeros C zeros_pass in record {
  S = w.D;
  S' = cubics zeros;
  meets = w.meets;
  meets' = record { smooth = λ k t. m.smooth k tt; linear = λ k t. m.linear k tt };
  corners = λ k c t. ≋_trans {j = jet C (w.D k) (at c)} {k = none} {l = jet C (cubics zeros k) (at c)} (w.corners k c t)
      (≋_sym (corners all all zeros C zeros_pass k c t));
  unequal = λ e. w.not_zero (λ p. zero_of_nothing (w.D w.where_not) w.where_not p (e w.where_not));
}

pub needed : Needed
unfolding Smooth
needed = record {
  all = λ C S. (λ m. record { smooth = λ k. m.smooth k tt; linear = λ k. m.linear k tt }, λ m. record { smooth = λ k t. m.smooth k; linear = λ k t. m.linear k });
  edge = λ C k. counterexample (without_edge k C);
  half_diagonals = λ C j k n. counterexample (without_both j k (λ e. n (sym e)) C);
}
