-- Sets of quoted cubics on the lines of the half diagonals, at the corners and along the edges: what is claimed of their heights and slopes there is
-- a computed test. Assumes nothing.
use mathlib.Core.Path.{◌≡◌, refl}
use mathlib.Core.Bool.{Bool}
use mathlib.Core.List.{List, ◌∷◌}
use lib.Dec.{T}
use lib.IntN.{ℤ, pos}
use Rattle.element_sibson.specs.Fraction.{Positive, ℚ, complement}
use Rattle.element_sibson.specs.Cubic.{Cell, Point, by_r, by_s, Jet, jet, ◌≋◌}
use Rattle.element_sibson.specs.Piece.{Piece, top, right, bottom, left, next, FourCubics, HalfDiagonal, Corner, left_top, right_top, left_bottom, right_bottom, at}
use Rattle.element_sibson.specs.Conditions.{square_term, square_in_r, square_in_s}
use Rattle.element_sibson.specs.Theorems.{per_pixel}
use Rattle.integers.proofs.Polynomial.{Expr, var, #◌, ◌⊗◌}
use Rattle.integers.proofs.Solve.{same, same_sound}
use Rattle.element_sibson.proofs.Fractions.{≈_refl}
use Rattle.element_sibson.proofs.Jets.{≋_sym, ≋_trans, ◌≈ₚ◌, jet_at_lem}
use Rattle.element_sibson.proofs.Quote.{complementₑ, Quotient, wholeₑ, Cubicₑ, squareₑ, evaluated, fractionₑ, fraction, three, same_three, same_three_lem}
use Rattle.element_sibson.proofs.Evaluate.{numerator, cubes, numerators_at, by_numerators, by_numbers, numeratorsₑ}

-- ---- variables: 0 is W, 1 is H, 2 / 3 is a fraction t, others follow

abbrev pub Wₑ : Expr
Wₑ = var 0

abbrev pub Hₑ : Expr
Hₑ = var 1

abbrev pub tₑ : Quotient
tₑ = fractionₑ 2

abbrev pub given : Cell → ℚ → List ℤ → List ℤ
given C t others = pos C.W.number ∷ pos C.H.number ∷ fraction t others

-- ---- half diagonals

-- the point of a half diagonal's line with a given s
abbrev pub on_line : Piece → ℚ → Point
on_line top s = record { r = complement s; s = s }
on_line right s = record { r = s; s = s }
on_line bottom s = record { r = complement s; s = s }
on_line left s = record { r = s; s = s }

on_line_lem : (k : Piece) (P : Point) → HalfDiagonal k P → P ≈ₚ on_line k P.s
unfolding HalfDiagonal
on_line_lem top P h = record { rs = h.0; ss = ≈_refl P.s }
on_line_lem right P h = record { rs = h.0; ss = ≈_refl P.s }
on_line_lem bottom P h = record { rs = h.0; ss = ≈_refl P.s }
on_line_lem left P h = record { rs = h.0; ss = ≈_refl P.s }

abbrev on_lineₑ : Piece → Cubicₑ → Jet Expr
on_lineₑ top f = numeratorsₑ f (complementₑ tₑ) tₑ
on_lineₑ right f = numeratorsₑ f tₑ tₑ
on_lineₑ bottom f = numeratorsₑ f (complementₑ tₑ) tₑ
on_lineₑ left f = numeratorsₑ f tₑ tₑ

-- the pieces k and next k of a quoted set agree on the line between them
abbrev pub joins : (Piece → Cubicₑ) → Piece → Bool
joins f k = same_three (on_lineₑ k (f k)) (on_lineₑ k (f (next k)))

pub joined : (C : Cell) (f : Piece → Cubicₑ) (d : Positive) (others : List ℤ) (k : Piece) → T (joins f k) → (s : ℚ) →
    jet C (evaluated (given C s others) (f k) d) (on_line k s) ≋ jet C (evaluated (given C s others) (f (next k)) d) (on_line k s)
unfolding next numerators_at numerator by_r by_s
joined C f d others top t s = let ρ = given C s others in
    by_numerators C (evaluated ρ (f top) d) (evaluated ρ (f right) d) (on_line top s) refl (same_three_lem (on_lineₑ top (f top)) (on_lineₑ top (f right)) t ρ)
joined C f d others right t s = let ρ = given C s others in
    by_numerators C (evaluated ρ (f right) d) (evaluated ρ (f bottom) d) (on_line right s) refl (same_three_lem (on_lineₑ right (f right)) (on_lineₑ right (f bottom)) t ρ)
joined C f d others bottom t s = let ρ = given C s others in
    by_numerators C (evaluated ρ (f bottom) d) (evaluated ρ (f left) d) (on_line bottom s) refl (same_three_lem (on_lineₑ bottom (f bottom)) (on_lineₑ bottom (f left)) t ρ)
joined C f d others left t s = let ρ = given C s others in
    by_numerators C (evaluated ρ (f left) d) (evaluated ρ (f top) d) (on_line left s) refl (same_three_lem (on_lineₑ left (f left)) (on_lineₑ left (f top)) t ρ)

-- smooth along one half diagonal, and from its line
abbrev pub SmoothAt : Cell → FourCubics → Piece → Type 0
SmoothAt C S k = (P : Point) → HalfDiagonal k P → jet C (S k) P ≋ jet C (S (next k)) P

pub smooth_at : (C : Cell) (S : FourCubics) (k : Piece) → ((s : ℚ) → jet C (S k) (on_line k s) ≋ jet C (S (next k)) (on_line k s)) → SmoothAt C S k
smooth_at C S k e P h = let l = on_line_lem k P h in
    ≋_trans {j = jet C (S k) P} {k = jet C (S k) (on_line k P.s)} {l = jet C (S (next k)) P} (jet_at_lem C (S k) l)
    (≋_trans {j = jet C (S k) (on_line k P.s)} {k = jet C (S (next k)) (on_line k P.s)} {l = jet C (S (next k)) P}
    (e P.s) (≋_sym (jet_at_lem C (S (next k)) l)))

-- ---- edges

-- piece k has no square term
abbrev pub flat : (Piece → Cubicₑ) → Piece → Bool
flat f k = same (squareₑ k (f k)) (# 0)

pub no_square : (ρ : List ℤ) (f : Piece → Cubicₑ) (d : Positive) (k : Piece) → T (flat f k) → square_term k (evaluated ρ (f k) d) ≡ pos 0
unfolding square_term square_in_r square_in_s by_r by_s
no_square ρ f d top t = same_sound (squareₑ top (f top)) (# 0) t ρ
no_square ρ f d right t = same_sound (squareₑ right (f right)) (# 0) t ρ
no_square ρ f d bottom t = same_sound (squareₑ bottom (f bottom)) (# 0) t ρ
no_square ρ f d left t = same_sound (squareₑ left (f left)) (# 0) t ρ

-- ---- corners

abbrev atₑ : Corner → Cubicₑ → Jet Expr
atₑ left_top f = numeratorsₑ f (wholeₑ (# 0)) (wholeₑ (# 0))
atₑ right_top f = numeratorsₑ f (wholeₑ (# 1)) (wholeₑ (# 0))
atₑ left_bottom f = numeratorsₑ f (wholeₑ (# 0)) (wholeₑ (# 1))
atₑ right_bottom f = numeratorsₑ f (wholeₑ (# 1)) (wholeₑ (# 1))

-- the divisor times three numbers
abbrev timesₑ : Positive → Jet Expr → Jet Expr
timesₑ d n = let k = # d.number ⊗ # 1 in record { height = n.height ⊗ k; x_slope = n.x_slope ⊗ k; y_slope = n.y_slope ⊗ k }

-- at a corner a quoted cubic has these numbers
abbrev pub has : Cubicₑ → Positive → Jet Expr → Corner → Bool
has f d n c = same_three (atₑ c f) (timesₑ d n)

pub has_numbers : (C : Cell) (ρ : List ℤ) (f : Cubicₑ) (d : Positive) (n : Jet Expr) (c : Corner) → T (has f d n c) →
    jet C (evaluated ρ f d) (at c) ≋ per_pixel C (three ρ n)
unfolding numerators_at numerator cubes by_r by_s
has_numbers C ρ f d n left_top t = by_numbers C (evaluated ρ f d) (at left_top) (three ρ n) (same_three_lem (atₑ left_top f) (timesₑ d n) t ρ)
has_numbers C ρ f d n right_top t = by_numbers C (evaluated ρ f d) (at right_top) (three ρ n) (same_three_lem (atₑ right_top f) (timesₑ d n) t ρ)
has_numbers C ρ f d n left_bottom t = by_numbers C (evaluated ρ f d) (at left_bottom) (three ρ n) (same_three_lem (atₑ left_bottom f) (timesₑ d n) t ρ)
has_numbers C ρ f d n right_bottom t = by_numbers C (evaluated ρ f d) (at right_bottom) (three ρ n) (same_three_lem (atₑ right_bottom f) (timesₑ d n) t ρ)
