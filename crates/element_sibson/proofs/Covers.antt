-- The pieces cover the cell, and meet on the half diagonals only. Assumes nothing.
use mathlib.Core.Path.{refl, sym, subst}
use mathlib.Core.Logic.{◌↔◌}
use mathlib.Core.Bool.{Bool, true, false, not, ◌&&◌, cond}
use Prim.Native.Nat.{◌≤◌}
use native.Mathlib.Omega.{arith}
use lib.Dec.{T}
use lib.IntN.{pos}
use lib.Signed.{le_z_yes}
use Rattle.element_sibson.specs.Fraction.{ℚ, ◌≈◌, ◌≤ℚ◌, leℚ, whole, half, complement}
use Rattle.element_sibson.specs.Cubic.{Cell, Point, jet, ◌≋◌}
use Rattle.element_sibson.specs.Piece.{Piece, top, right, bottom, left, number, next, FourCubics, InCell, triangle, piece_at, HalfDiagonal}
use Rattle.element_sibson.specs.Conditions.{Smooth}
use Rattle.element_sibson.specs.Sense.{Sharing, same, with_next, with_previous, at_centre, Covering}
use Rattle.integers.proofs.Deduce.{both}
use Rattle.integers.proofs.Order.{cond_ind}
use Rattle.element_sibson.proofs.Fractions.{≈_sym, ≈_complement, ≤_left, ≤_right, ≤_complement, ≤_trans, ≤_antisym, ≤_of-≈, ≤_yes, ≤_test, ≤_no, ≤_swap, ≤_swap', below_half, above_half, half_complement}
use Rattle.element_sibson.proofs.Finite.{and}
use Rattle.element_sibson.proofs.Jets.{≋_refl, ≋_sym, ≋_trans}

-- ---- 0, 1/2 and 1

zero_half : whole (pos 0) ≤ℚ half
zero_half = record { crossed = le_z_yes tt }

half_one : half ≤ℚ whole (pos 1)
half_one = record { crossed = le_z_yes tt }

zero_complement : whole (pos 0) ≈ complement (whole (pos 1))
zero_complement = record { crossed = refl }

one_complement : complement (whole (pos 0)) ≈ whole (pos 1)
one_complement = record { crossed = refl }

-- ---- tests

either : (c : Bool) {A : Type 0} → (T c → A) → (T (not c) → A) → A
either true f g = f tt
either false f g = g tt

contradiction : (c : Bool) {A : Type 0} → T c → T (not c) → A
contradiction true s t = absurd t
contradiction false s t = absurd s

-- ---- the two inequalities of a triangle

abbrev pub Inside : Piece → Point → Type 0
Inside top P = (P.s ≤ℚ P.r) × (P.s ≤ℚ complement P.r)
Inside right P = (P.s ≤ℚ P.r) × (complement P.s ≤ℚ P.r)
Inside bottom P = (P.r ≤ℚ P.s) × (complement P.r ≤ℚ P.s)
Inside left P = (P.r ≤ℚ P.s) × (P.r ≤ℚ complement P.s)

two : (x y u v : ℚ) → T (leℚ x y && leℚ u v) → (x ≤ℚ y) × (u ≤ℚ v)
two x y u v t = let (a, b) = both (leℚ x y) (leℚ u v) t in (≤_yes x y a, ≤_yes u v b)

pub inside : (k : Piece) (P : Point) → T (triangle k P) → Inside k P
inside top P t = two P.s P.r P.s (complement P.r) t
inside right P t = two P.s P.r (complement P.s) P.r t
inside bottom P t = two P.r P.s (complement P.r) P.s t
inside left P t = two P.r P.s P.r (complement P.s) t

tests : (x y u v : ℚ) → (x ≤ℚ y) × (u ≤ℚ v) → T (leℚ x y && leℚ u v)
tests x y u v (a, b) = and (leℚ x y) (leℚ u v) (≤_test a) (≤_test b)

pub test : (k : Piece) (P : Point) → Inside k P → T (triangle k P)
test top P h = tests P.s P.r P.s (complement P.r) h
test right P h = tests P.s P.r (complement P.s) P.r h
test bottom P h = tests P.r P.s (complement P.r) P.s h
test left P h = tests P.r P.s P.r (complement P.s) h

-- ---- every point is in its piece

the_rest : (P : Point) → T (not (triangle top P)) → T (not (triangle right P)) → T (not (triangle bottom P)) → T (triangle left P)
the_rest P nt nr nb = either (leℚ P.s P.r) above below
  where
    above : T (leℚ P.s P.r) → T (triangle left P)
    above t = either (leℚ P.s (complement P.r))
        (λ u. contradiction (triangle top P) (test top P (≤_yes P.s P.r t, ≤_yes P.s (complement P.r) u)) nt)
        (λ u. contradiction (triangle right P) (test right P (≤_yes P.s P.r t, ≤_swap' (≤_no P.s (complement P.r) u))) nr)

    below : T (not (leℚ P.s P.r)) → T (triangle left P)
    below t = either (leℚ (complement P.r) P.s)
        (λ u. contradiction (triangle bottom P) (test bottom P (≤_no P.s P.r t, ≤_yes (complement P.r) P.s u)) nb)
        (λ u. test left P (≤_no P.s P.r t, ≤_swap (≤_no (complement P.r) P.s u)))

covers : (P : Point) → T (triangle (piece_at P) P)
covers P = cond_ind (triangle top P) top (cond (triangle right P) right (cond (triangle bottom P) bottom left)) (λ k. T (triangle k P)) (λ t. t)
    (λ nt. cond_ind (triangle right P) right (cond (triangle bottom P) bottom left) (λ k. T (triangle k P)) (λ t. t)
    (λ nr. cond_ind (triangle bottom P) bottom left (λ k. T (triangle k P)) (λ t. t) (λ nb. the_rest P nt nr nb)))

lowest : (P : Point) (k : Piece) → T (triangle k P) → number (piece_at P) ≤ number k
unfolding number
lowest P k t = cond_ind (triangle top P) top (cond (triangle right P) right (cond (triangle bottom P) bottom left)) (λ l. number l ≤ number k) (λ u. least k)
    (λ nt. cond_ind (triangle right P) right (cond (triangle bottom P) bottom left) (λ l. number l ≤ number k) (λ u. second k t nt)
    (λ nr. cond_ind (triangle bottom P) bottom left (λ l. number l ≤ number k) (λ u. third k t nt nr) (λ nb. fourth k t nt nr nb)))
  where
    least : (k : Piece) → 0 ≤ number k
    least k = omega arith

    second : (k : Piece) → T (triangle k P) → T (not (triangle top P)) → 1 ≤ number k
    second top t nt = contradiction (triangle top P) t nt
    second right t nt = omega arith
    second bottom t nt = omega arith
    second left t nt = omega arith

    third : (k : Piece) → T (triangle k P) → T (not (triangle top P)) → T (not (triangle right P)) → 2 ≤ number k
    third top t nt nr = contradiction (triangle top P) t nt
    third right t nt nr = contradiction (triangle right P) t nr
    third bottom t nt nr = omega arith
    third left t nt nr = omega arith

    fourth : (k : Piece) → T (triangle k P) → T (not (triangle top P)) → T (not (triangle right P)) → T (not (triangle bottom P)) → 3 ≤ number k
    fourth top t nt nr nb = contradiction (triangle top P) t nt
    fourth right t nt nr nb = contradiction (triangle right P) t nr
    fourth bottom t nt nr nb = contradiction (triangle bottom P) t nb
    fourth left t nt nr nb = omega arith

-- ---- where two meet

in_both : (k : Piece) (P : Point) → HalfDiagonal k P → InCell P × T (triangle k P) × T (triangle (next k) P)
unfolding HalfDiagonal next
in_both top P (e, l, u) =
    let v : half ≤ℚ P.r = ≤_right (≤_left half_complement (≤_complement u)) (≈_sym e) in
    let w : P.s ≤ℚ complement P.r = ≤_swap (≤_of-≈ e) in (
      record { from_left = ≤_trans zero_half v; to_right = ≤_left e (≤_right (≤_complement l) one_complement); from_top = l; to_bottom = ≤_trans u half_one },
      test top P (≤_trans u v, w),
      test right P (≤_trans u v, ≤_of-≈ (≈_sym e)),
    )
in_both right P (e, l, u) =
    let v : complement P.s ≤ℚ P.s = ≤_trans (≤_right (≤_complement l) (≈_sym half_complement)) l in (
      record { from_left = ≤_trans zero_half (≤_right l (≈_sym e)); to_right = ≤_left e u; from_top = ≤_trans zero_half l; to_bottom = u },
      test right P (≤_of-≈ (≈_sym e), ≤_right v (≈_sym e)),
      test bottom P (≤_of-≈ e, ≤_left (≈_complement e) v),
    )
in_both bottom P (e, l, u) =
    let v : P.r ≤ℚ half = ≤_left e (≤_right (≤_complement l) (≈_sym half_complement)) in (
      record { from_left = ≤_right (≤_left zero_complement (≤_complement u)) (≈_sym e); to_right = ≤_trans v half_one; from_top = ≤_trans zero_half l; to_bottom = u },
      test bottom P (≤_trans v l, ≤_swap' (≤_of-≈ (≈_sym e))),
      test left P (≤_trans v l, ≤_of-≈ e),
    )
in_both left P (e, l, u) =
    let v : P.s ≤ℚ complement P.s = ≤_trans u (≤_left half_complement (≤_complement u)) in (
      record { from_left = ≤_right l (≈_sym e); to_right = ≤_left e (≤_trans u half_one); from_top = l; to_bottom = ≤_trans u half_one },
      test left P (≤_of-≈ e, ≤_left e v),
      test top P (≤_of-≈ (≈_sym e), ≤_right v (≈_complement (≈_sym e))),
    )

-- a piece and the next share only the half diagonal between them
adjacent : (k : Piece) (P : Point) → InCell P → Inside k P → Inside (next k) P → HalfDiagonal k P
unfolding HalfDiagonal next
adjacent top P c (a, b) (a', b') = (≤_antisym (≤_swap b) b', c.from_top, below_half (≤_trans a (≤_swap b)))
adjacent right P c (a, b) (a', b') = (≤_antisym a' a, above_half (≤_trans b a'), c.to_bottom)
adjacent bottom P c (a, b) (a', b') = (≤_antisym b' (≤_swap' b), above_half (≤_trans (≤_swap' b) a), c.to_bottom)
adjacent left P c (a, b) (a', b') = (≤_antisym a a', c.from_top, below_half (≤_trans a' b))

meeting : (k : Piece) (P : Point) → HalfDiagonal k P ↔ (InCell P × T (triangle k P) × T (triangle (next k) P))
meeting k P = (in_both k P, λ h. adjacent k P h.0 (inside k P h.1) (inside (next k) P h.2))

-- opposite pieces share only the centre
centre : (P : Point) → P.r ≈ P.s → P.r ≈ complement P.s → (j : Piece) → HalfDiagonal j P
unfolding HalfDiagonal
centre P e f = go
  where
    s≤ : P.s ≤ℚ half
    s≤ = below_half (≤_left (≈_sym e) (≤_of-≈ f))

    ≤s : half ≤ℚ P.s
    ≤s = above_half (≤_left (≈_sym f) (≤_of-≈ e))

    go : (j : Piece) → HalfDiagonal j P
    go top = (f, ≤_trans zero_half ≤s, s≤)
    go right = (e, ≤s, ≤_trans s≤ half_one)
    go bottom = (f, ≤s, ≤_trans s≤ half_one)
    go left = (e, ≤_trans zero_half ≤s, s≤)

shared : (P : Point) → InCell P → (k l : Piece) → T (triangle k P) → T (triangle l P) → Sharing k l P
unfolding next
shared P c k l t u = go k l (inside k P t) (inside l P u)
  where
    go : (k l : Piece) → Inside k P → Inside l P → Sharing k l P
    go top top a b = same refl
    go right right a b = same refl
    go bottom bottom a b = same refl
    go left left a b = same refl
    go top right a b = with_next refl (adjacent top P c a b)
    go right bottom a b = with_next refl (adjacent right P c a b)
    go bottom left a b = with_next refl (adjacent bottom P c a b)
    go left top a b = with_next refl (adjacent left P c a b)
    go right top a b = with_previous refl (adjacent top P c b a)
    go bottom right a b = with_previous refl (adjacent right P c b a)
    go left bottom a b = with_previous refl (adjacent bottom P c b a)
    go top left a b = with_previous refl (adjacent left P c b a)
    go top bottom (a, b) (a', b') = at_centre (centre P (≤_antisym a' a) (≤_antisym (≤_swap b) (≤_swap' b')))
    go bottom top (a, b) (a', b') = at_centre (centre P (≤_antisym a a') (≤_antisym (≤_swap b') (≤_swap' b)))
    go right left (a, b) (a', b') = at_centre (centre P (≤_antisym a' a) (≤_antisym b' b))
    go left right (a, b) (a', b') = at_centre (centre P (≤_antisym a a') (≤_antisym b b'))

-- ---- so the pieces of a smooth set agree there

module _ (C : Cell) (S : FourCubics) (smooth : Smooth C S) (P : Point) where
  step : (k : Piece) → HalfDiagonal k P → jet C (S k) P ≋ jet C (S (next k)) P
  unfolding Smooth
  step k h = smooth k P h

  around_centre : ((j : Piece) → HalfDiagonal j P) → (k : Piece) → jet C (S k) P ≋ jet C (S top) P
  unfolding next
  around_centre h top = ≋_refl (jet C (S top) P)
  around_centre h right = ≋_sym (step top (h top))
  around_centre h left = step left (h left)
  around_centre h bottom = ≋_trans {j = jet C (S bottom) P} {k = jet C (S left) P} {l = jet C (S top) P} (step bottom (h bottom)) (step left (h left))

  alike : (k l : Piece) → Sharing k l P → jet C (S k) P ≋ jet C (S l) P
  alike k l (same e) = subst (λ x. jet C (S k) P ≋ jet C (S x) P) e (≋_refl (jet C (S k) P))
  alike k l (with_next e h) = subst (λ x. jet C (S k) P ≋ jet C (S x) P) (sym e) (step k h)
  alike k l (with_previous e h) = subst (λ x. jet C (S x) P ≋ jet C (S l) P) (sym e) (≋_sym (step l h))
  alike k l (at_centre h) = ≋_trans {j = jet C (S k) P} {k = jet C (S top) P} {l = jet C (S l) P} (around_centre h k) (≋_sym (around_centre h l))

-- neighbours agree on the half diagonal, where both triangles are
smooth_if : (C : Cell) (S : FourCubics) →
    ((P : Point) → InCell P → (k l : Piece) → T (triangle k P) → T (triangle l P) → jet C (S k) P ≋ jet C (S l) P) → Smooth C S
unfolding Smooth
smooth_if C S agreed k P h = let (c, t, u) = (meeting k P).0 h in agreed P c k (next k) t u

pub covering : Covering
unfolding number
covering = record {
  numbers = (refl, refl, refl, refl);
  of_top = λ P. (inside top P, test top P);
  of_right = λ P. (inside right P, test right P);
  of_bottom = λ P. (inside bottom P, test bottom P);
  of_left = λ P. (inside left P, test left P);
  of_cell = λ P. (
    λ c. (c.from_left, c.to_right, c.from_top, c.to_bottom),
    λ h. record { from_left = h.0; to_right = h.1; from_top = h.2; to_bottom = h.3 },
  );
  covers = covers;
  lowest = lowest;
  meeting = meeting;
  shared = shared;
  agree = λ C S. (λ smooth P c k l t u. alike C S smooth P k l (shared P c k l t u), smooth_if C S);
}
