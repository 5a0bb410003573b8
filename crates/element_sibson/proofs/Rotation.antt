-- A quarter turn of the cell: the cubic at (1 − s, r). It takes each piece's place to the one before, and the conditions to themselves. Assumes nothing.
use mathlib.Core.Path.{◌≡◌, refl}
use mathlib.Core.Bool.{Bool}
use mathlib.Core.List.{[], ◌∷◌}
use lib.Dec.{T}
use lib.IntN.{pos, neg_ℤ}
use Rattle.element_sibson.specs.Fraction.{ℚ, ◌≈◌, ◌·ℚ◌, complement}
use Rattle.element_sibson.specs.Cubic.{Cell, Point, Cubic, one, r¹, s¹, r², rs, s², r³, r²s, rs², s³, value, by_r, by_s, Jet, jet, ◌≋◌}
use Rattle.element_sibson.specs.Piece.{Piece, top, right, bottom, left, next, FourCubics, triangle, HalfDiagonal, Corner, left_top, right_top, left_bottom, right_bottom, at}
use Rattle.element_sibson.specs.Conditions.{square_term, square_in_r, square_in_s}
use Rattle.element_sibson.specs.Element.{transposed, flipped}
use Rattle.integers.proofs.Polynomial.{#◌, ⊖◌}
use Rattle.integers.proofs.Deduce.{◌·◌, certified_sound}
use Rattle.element_sibson.proofs.Fractions.{≈_sym, ≈_trans, ≈-·, ≈-÷, ≈_complement, ≤_left, ≤_right, ≤_complement, half_complement}
use Rattle.element_sibson.proofs.Finite.{every_piece_lem, every_corner, every_corner_lem, implies, implied}
use Rattle.element_sibson.proofs.Jets.{≋_sym, ≋_trans, ◌≈ₚ◌, jet_at_lem, none}
use Rattle.element_sibson.proofs.Coefficients.{Zero}
use Rattle.element_sibson.proofs.Meetings.{SmoothAt}
use Rattle.element_sibson.proofs.Turnings.{transposing, flipping}
use Rattle.element_sibson.proofs.Quote.{complementₑ, ◌·ₑ◌, nil, Cubicₑ, valueₑ, by_rₑ, by_sₑ, transposedₑ, flippedₑ, squareₑ, equal, anyₑ, rₑ, sₑ, any, cubic}

unfoldable pub rotated : Cubic → Cubic
rotated f = flipped (transposed f)

-- the point where a turned cubic has its value
abbrev pub around : Point → Point
around P = record { r = complement P.s; s = P.r }

-- width and height exchanged
abbrev pub on_side : Cell → Cell
on_side C = record { W = C.H; H = C.W }

-- heights and slopes turned with the cell
abbrev pub quarter : Jet ℚ → Jet ℚ
quarter j = record { height = j.height; x_slope = j.y_slope; y_slope = neg_ℤ (pos 1) ·ℚ j.x_slope }

-- each piece turned to the place before its own
unfoldable pub rotated_set : FourCubics → FourCubics
rotated_set S k = rotated (S (next k))

-- ---- heights and slopes

abbrev rotatedₑ : Cubicₑ
rotatedₑ = flippedₑ (transposedₑ anyₑ)

rotated_value : (f : Cubic) (P : Point) → value (rotated f) P ≈ value f (around P)
unfolding rotated
rotated_value f P = let Q : Point = record { r = P.r; s = complement P.s } in
    ≈_trans {y = value (transposed f) Q} (flipping (transposed f) P) (transposing f Q)

rotated_by_r : (f : Cubic) (P : Point) → value (by_r (rotated f)) P ≈ value (by_s f) (around P)
unfolding value rotated flipped transposed by_r by_s
rotated_by_r f P = record { crossed = equal (valueₑ (by_rₑ rotatedₑ) rₑ sₑ) (valueₑ (by_sₑ anyₑ) (complementₑ sₑ) rₑ) tt (any f P []) }

rotated_by_s : (f : Cubic) (P : Point) → value (by_s (rotated f)) P ≈ neg_ℤ (pos 1) ·ℚ value (by_r f) (around P)
unfolding value rotated flipped transposed by_r by_s
rotated_by_s f P = record { crossed = equal (valueₑ (by_sₑ rotatedₑ) rₑ sₑ) (⊖ # 1 ·ₑ valueₑ (by_rₑ anyₑ) (complementₑ sₑ) rₑ) tt (any f P []) }

pub rotated_jet : (C : Cell) (f : Cubic) (P : Point) → jet (on_side C) (rotated f) P ≋ quarter (jet C f (around P))
unfolding jet
rotated_jet C f P = record {
  heights = rotated_value f P;
  x_slopes = ≈-÷ C.H (rotated_by_r f P);
  y_slopes = ≈-÷ C.W (rotated_by_s f P);
}

pub ≋_quarter : {j k : Jet ℚ} → j ≋ k → quarter j ≋ quarter k
≋_quarter e = record { heights = e.heights; x_slopes = e.y_slopes; y_slopes = ≈-· (neg_ℤ (pos 1)) e.x_slopes }

-- ---- the half diagonals

diagonal_around : (k : Piece) (P : Point) → HalfDiagonal k P → HalfDiagonal (next k) (around P)
unfolding HalfDiagonal next
diagonal_around top P (e, l, u) =
    (≈_sym e, ≤_right (≤_left half_complement (≤_complement u)) (≈_sym e), ≤_left e (≤_right (≤_complement l) (record { crossed = refl })))
diagonal_around right P (e, l, u) = (≈_complement (≈_sym e), ≤_right l (≈_sym e), ≤_left e u)
diagonal_around bottom P (e, l, u) =
    (≈_sym e, ≤_right (≤_left (record { crossed = refl }) (≤_complement u)) (≈_sym e), ≤_left e (≤_right (≤_complement l) (≈_sym half_complement)))
diagonal_around left P (e, l, u) = (≈_complement (≈_sym e), ≤_right l (≈_sym e), ≤_left e u)

pub smooth_rotated : (C : Cell) (S : FourCubics) (k : Piece) → SmoothAt C S (next k) → SmoothAt (on_side C) (rotated_set S) k
unfolding rotated_set
smooth_rotated C S k smooth P h =
    ≋_trans {j = jet (on_side C) (rotated (S (next k))) P} {k = quarter (jet C (S (next k)) (around P))} {l = jet (on_side C) (rotated (S (next (next k)))) P}
    (rotated_jet C (S (next k)) P)
    (≋_trans {j = quarter (jet C (S (next k)) (around P))} {k = quarter (jet C (S (next (next k))) (around P))} {l = jet (on_side C) (rotated (S (next (next k)))) P}
    (≋_quarter (smooth (around P) (diagonal_around k P h))) (≋_sym (rotated_jet C (S (next (next k))) P)))

-- ---- the edges

pub square_rotated : (k : Piece) (f : Cubic) → square_term (next k) f ≡ pos 0 → square_term k (rotated f) ≡ pos 0
unfolding square_term square_in_r square_in_s next rotated flipped transposed by_r by_s
square_rotated top f e = certified_sound ((⊖ # 1 · nil (squareₑ right anyₑ)) ∷ []) (nil (squareₑ top rotatedₑ)) tt (cubic f []) e
square_rotated right f e = certified_sound ((# 1 · nil (squareₑ bottom anyₑ)) ∷ []) (nil (squareₑ right rotatedₑ)) tt (cubic f []) e
square_rotated bottom f e = certified_sound ((⊖ # 1 · nil (squareₑ left anyₑ)) ∷ []) (nil (squareₑ bottom rotatedₑ)) tt (cubic f []) e
square_rotated left f e = certified_sound ((# 1 · nil (squareₑ top anyₑ)) ∷ []) (nil (squareₑ left rotatedₑ)) tt (cubic f []) e

-- ---- the corners

unfoldable pub NothingAtCorners : Cell → FourCubics → Type 0
NothingAtCorners C S = (k : Piece) (c : Corner) → T (triangle k (at c)) → jet C (S k) (at c) ≋ none

turn : Corner → Corner
turn left_top = right_top
turn right_top = right_bottom
turn left_bottom = left_top
turn right_bottom = left_bottom

turned_point : (c : Corner) → around (at c) ≈ₚ at (turn c)
unfolding turn
turned_point left_top = record { rs = record { crossed = refl }; ss = record { crossed = refl } }
turned_point right_top = record { rs = record { crossed = refl }; ss = record { crossed = refl } }
turned_point left_bottom = record { rs = record { crossed = refl }; ss = record { crossed = refl } }
turned_point right_bottom = record { rs = record { crossed = refl }; ss = record { crossed = refl } }

-- a piece touches a corner as the next piece touches the turned one
abbrev keeps : Piece → Corner → Bool
keeps k c = implies (triangle k (at c)) (triangle (next k) (at (turn c)))

touches : (k : Piece) (c : Corner) → T (triangle k (at c)) → T (triangle (next k) (at (turn c)))
unfolding next turn
touches k c = implied (triangle k (at c)) (triangle (next k) (at (turn c))) (every_corner_lem (keeps k) (every_piece_lem (λ l. every_corner (keeps l)) tt k) c)

quarter_none : quarter none ≋ none
unfolding none
quarter_none = record { heights = record { crossed = refl }; x_slopes = record { crossed = refl }; y_slopes = record { crossed = refl } }

pub corners_rotated : (C : Cell) (S : FourCubics) → NothingAtCorners C S → NothingAtCorners (on_side C) (rotated_set S)
unfolding NothingAtCorners rotated_set
corners_rotated C S h k c t =
    ≋_trans {j = jet (on_side C) (rotated (S (next k))) (at c)} {k = quarter (jet C (S (next k)) (around (at c)))} {l = none} (rotated_jet C (S (next k)) (at c))
    (≋_trans {j = quarter (jet C (S (next k)) (around (at c)))} {k = quarter none} {l = none}
    (≋_quarter (≋_trans {j = jet C (S (next k)) (around (at c))} {k = jet C (S (next k)) (at (turn c))} {l = none}
    (jet_at_lem C (S (next k)) (turned_point c)) (h (next k) (turn c) (touches k c t)))) quarter_none)

-- ---- a cubic that is 0 when turned is 0

pub zero_rotated : (f : Cubic) → Zero (rotated f) → Zero f
unfolding Zero rotated flipped transposed
zero_rotated f z one = certified_sound
    ((# 1 · nil rotatedₑ.c00) ∷ (# 1 · nil rotatedₑ.c01) ∷ (# 1 · nil rotatedₑ.c02) ∷ (# 1 · nil rotatedₑ.c03) ∷ [])
    (nil anyₑ.c00) tt (cubic f []) (z one) (z s¹) (z s²) (z s³)
zero_rotated f z r¹ = certified_sound
    ((⊖ # 1 · nil rotatedₑ.c01) ∷ (⊖ # 2 · nil rotatedₑ.c02) ∷ (⊖ # 3 · nil rotatedₑ.c03) ∷ [])
    (nil anyₑ.c10) tt (cubic f []) (z s¹) (z s²) (z s³)
zero_rotated f z s¹ = certified_sound
    ((# 1 · nil rotatedₑ.c10) ∷ (# 1 · nil rotatedₑ.c11) ∷ (# 1 · nil rotatedₑ.c12) ∷ [])
    (nil anyₑ.c01) tt (cubic f []) (z r¹) (z rs) (z rs²)
zero_rotated f z r² = certified_sound ((# 1 · nil rotatedₑ.c02) ∷ (# 3 · nil rotatedₑ.c03) ∷ []) (nil anyₑ.c20) tt (cubic f []) (z s²) (z s³)
zero_rotated f z rs = certified_sound ((⊖ # 1 · nil rotatedₑ.c11) ∷ (⊖ # 2 · nil rotatedₑ.c12) ∷ []) (nil anyₑ.c11) tt (cubic f []) (z rs) (z rs²)
zero_rotated f z s² = certified_sound ((# 1 · nil rotatedₑ.c20) ∷ (# 1 · nil rotatedₑ.c21) ∷ []) (nil anyₑ.c02) tt (cubic f []) (z r²) (z r²s)
zero_rotated f z r³ = certified_sound ((⊖ # 1 · nil rotatedₑ.c03) ∷ []) (nil anyₑ.c30) tt (cubic f []) (z s³)
zero_rotated f z r²s = certified_sound ((# 1 · nil rotatedₑ.c12) ∷ []) (nil anyₑ.c21) tt (cubic f []) (z rs²)
zero_rotated f z rs² = certified_sound ((⊖ # 1 · nil rotatedₑ.c21) ∷ []) (nil anyₑ.c12) tt (cubic f []) (z r²s)
zero_rotated f z s³ = certified_sound ((# 1 · nil rotatedₑ.c30) ∷ []) (nil anyₑ.c03) tt (cubic f []) (z r³)
