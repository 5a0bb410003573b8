-- The points of a piece by three naturals: the weights of its two corners, and half that of the centre (barycentric coordinates). Assumes nothing.
use mathlib.Core.Path.{◌≡◌, subst⁻¹, subst₃}
use mathlib.Core.List.{List, [], ◌∷◌}
use Prim.Native.Nat.{ℕ, ◌+◌, ◌*◌, ◌<◌}
use native.Mathlib.Nat.{mul-pos}
use lib.Dec.{T}
use lib.IntN.{ℤ, pos, ◌*ℤ◌}
use lib.Signed.{◌≤ℤ◌}
use Rattle.integers.proofs.Polynomial.{Expr, var, con, #◌, ◌⊕◌, ◌⊗◌, ◌⊝◌, eval}
use Rattle.integers.proofs.Solve.{Claim, ◌≼◌, Holds, same, same_sound}
use Rattle.integers.proofs.Deduce.{◌·◌, certified, certified_sound}
use Rattle.integers.proofs.Order.{nonneg_pos, *ℤ_mono_r, pos_nonneg, pos_inj}
use Rattle.element_sibson.specs.Cubic.{Point, Cubic, coefficient}
use Rattle.element_sibson.specs.Piece.{Piece, top, right, bottom, left, InCell, at}
use Rattle.element_sibson.specs.Theorems.{first, last}
use Rattle.element_sibson.proofs.Covers.{Inside, inside}
use Rattle.element_sibson.proofs.Finite.{every_piece_lem}
use Rattle.element_sibson.proofs.Jets.{◌≈ₚ◌}
use Rattle.element_sibson.proofs.Quote.{Quotient, complementₑ, ◌≤ₑ◌, cubic_ofₑ, fractionₑ, fraction}
use Rattle.element_readings.specs.Bounds.{On}
use Rattle.element_readings.proofs.Form.{over, formₑ}

-- the point is (A/Q, B/Q): the corner at the left or top end of the piece's edge has the weight u, that at the other end v, the centre 2w
abbrev pub Aₑ : Piece → Expr → Expr → Expr → Expr
Aₑ k u v w = con (at (first k)).r.numerator ⊗ u ⊕ con (at (last k)).r.numerator ⊗ v ⊕ w

abbrev pub Bₑ : Piece → Expr → Expr → Expr → Expr
Bₑ k u v w = con (at (first k)).s.numerator ⊗ u ⊕ con (at (last k)).s.numerator ⊗ v ⊕ w

abbrev pub Qₑ : Expr → Expr → Expr → Expr
Qₑ u v w = u ⊕ v ⊕ # 2 ⊗ w

abbrev pub number_a : Piece → ℤ → ℤ → ℤ → ℤ
number_a k u v w = eval (u ∷ v ∷ w ∷ []) (Aₑ k (var 0) (var 1) (var 2))

abbrev pub number_b : Piece → ℤ → ℤ → ℤ → ℤ
number_b k u v w = eval (u ∷ v ∷ w ∷ []) (Bₑ k (var 0) (var 1) (var 2))

abbrev number_q : ℤ → ℤ → ℤ → ℤ
number_q u v w = eval (u ∷ v ∷ w ∷ []) (Qₑ (var 0) (var 1) (var 2))

abbrev pub weighted : Piece → (u v w : ℕ) → 0 < u + v + 2 * w → Point
weighted k u v w h = over (number_a k (pos u) (pos v) (pos w)) (number_b k (pos u) (pos v) (pos w)) (record { number = u + v + 2 * w; above = h })

-- the form of a known cubic there
abbrev pub on_pieceₑ : Piece → Cubic → Expr → Expr → Expr → Expr
on_pieceₑ k f u v w = formₑ (cubic_ofₑ (λ p. con (coefficient f p)) (# 2)) (Aₑ k u v w) (Bₑ k u v w) (Qₑ u v w)

pub record Weighing (k : Piece) (P : Point) : Type 0 where
  pub u : ℕ
  pub v : ℕ
  pub w : ℕ
  pub above : 0 < u + v + 2 * w
  pub point : P ≈ₚ weighted k u v w above

-- ---- u, v and w from the coordinates: variables 0 to 3

abbrev rₑ : Quotient
rₑ = fractionₑ 0

abbrev sₑ : Quotient
sₑ = fractionₑ 2

abbrev aₑ : Expr
aₑ = rₑ.num ⊗ sₑ.den

abbrev bₑ : Expr
bₑ = sₑ.num ⊗ rₑ.den

abbrev qₑ : Expr
qₑ = rₑ.den ⊗ sₑ.den

abbrev uₑ : Piece → Expr
uₑ top = qₑ ⊝ aₑ ⊝ bₑ
uₑ right = aₑ ⊝ bₑ
uₑ bottom = bₑ ⊝ aₑ
uₑ left = qₑ ⊝ aₑ ⊝ bₑ

abbrev vₑ : Piece → Expr
vₑ top = aₑ ⊝ bₑ
vₑ right = aₑ ⊕ bₑ ⊝ qₑ
vₑ bottom = aₑ ⊕ bₑ ⊝ qₑ
vₑ left = bₑ ⊝ aₑ

abbrev wₑ : Piece → Expr
wₑ top = bₑ
wₑ right = qₑ ⊝ aₑ
wₑ bottom = qₑ ⊝ bₑ
wₑ left = aₑ

-- A, B and Q with these
abbrev acrossₑ : Piece → Expr
acrossₑ k = Aₑ k (uₑ k) (vₑ k) (wₑ k)

abbrev downₑ : Piece → Expr
downₑ k = Bₑ k (uₑ k) (vₑ k) (wₑ k)

abbrev totalₑ : Piece → Expr
totalₑ k = Qₑ (uₑ k) (vₑ k) (wₑ k)

module _ (P : Point) where
  abbrev σ : List ℤ
  σ = fraction P.r (fraction P.s [])

  abbrev NotNegative : Expr → Type 0
  NotNegative e = pos 0 ≤ℤ (eval σ e)

  -- from one inequality
  by : (h : Claim) (e : Expr) → T (certified ((# 1 · h) ∷ []) (# 0 ≼ e)) → Holds h σ → NotNegative e
  by h e t = certified_sound ((# 1 · h) ∷ []) (# 0 ≼ e) t σ

  -- and from one that is multiplied by the other coordinate's denominator
  by_r_lem : {a b : ℤ} → a ≤ℤ b → (a *ℤ pos P.r.denominator.number) ≤ℤ (b *ℤ pos P.r.denominator.number)
  by_r_lem = *ℤ_mono_r (pos_nonneg P.r.denominator.number)

  by_s_lem : {a b : ℤ} → a ≤ℤ b → (a *ℤ pos P.s.denominator.number) ≤ℤ (b *ℤ pos P.s.denominator.number)
  by_s_lem = *ℤ_mono_r (pos_nonneg P.s.denominator.number)

  not_negative : (k : Piece) → InCell P → Inside k P → NotNegative (uₑ k) × NotNegative (vₑ k) × NotNegative (wₑ k)
  not_negative top c (h, l) = (
    by (sₑ ≤ₑ complementₑ rₑ) (uₑ top) tt l.crossed,
    by (sₑ ≤ₑ rₑ) (vₑ top) tt h.crossed,
    by (# 0 ⊗ sₑ.den ⊗ rₑ.den ≼ sₑ.num ⊗ # 1 ⊗ rₑ.den) (wₑ top) tt (by_r_lem c.from_top.crossed),
  )
  not_negative right c (h, l) = (
    by (sₑ ≤ₑ rₑ) (uₑ right) tt h.crossed,
    by (complementₑ sₑ ≤ₑ rₑ) (vₑ right) tt l.crossed,
    by (rₑ.num ⊗ # 1 ⊗ sₑ.den ≼ # 1 ⊗ rₑ.den ⊗ sₑ.den) (wₑ right) tt (by_s_lem c.to_right.crossed),
  )
  not_negative bottom c (h, l) = (
    by (rₑ ≤ₑ sₑ) (uₑ bottom) tt h.crossed,
    by (complementₑ rₑ ≤ₑ sₑ) (vₑ bottom) tt l.crossed,
    by (sₑ.num ⊗ # 1 ⊗ rₑ.den ≼ # 1 ⊗ sₑ.den ⊗ rₑ.den) (wₑ bottom) tt (by_r_lem c.to_bottom.crossed),
  )
  not_negative left c (h, l) = (
    by (rₑ ≤ₑ complementₑ sₑ) (uₑ left) tt l.crossed,
    by (rₑ ≤ₑ sₑ) (vₑ left) tt h.crossed,
    by (# 0 ⊗ rₑ.den ⊗ sₑ.den ≼ rₑ.num ⊗ # 1 ⊗ sₑ.den) (wₑ left) tt (by_s_lem c.from_left.crossed),
  )

  -- with them the point is (A/Q, B/Q), and Q is the product of its denominators
  record Weighs (k : Piece) (u v w : ℤ) : Type 0 where
    rs : P.r.numerator *ℤ number_q u v w ≡ number_a k u v w *ℤ pos P.r.denominator.number
    ss : P.s.numerator *ℤ number_q u v w ≡ number_b k u v w *ℤ pos P.s.denominator.number
    qs : number_q u v w ≡ pos P.r.denominator.number *ℤ pos P.s.denominator.number

  weighs : (k : Piece) → Weighs k (eval σ (uₑ k)) (eval σ (vₑ k)) (eval σ (wₑ k))
  weighs k = record {
    rs = same_sound (rₑ.num ⊗ totalₑ k) (acrossₑ k ⊗ rₑ.den) (every_piece_lem (λ k. same (rₑ.num ⊗ totalₑ k) (acrossₑ k ⊗ rₑ.den)) tt k) σ;
    ss = same_sound (sₑ.num ⊗ totalₑ k) (downₑ k ⊗ sₑ.den) (every_piece_lem (λ k. same (sₑ.num ⊗ totalₑ k) (downₑ k ⊗ sₑ.den)) tt k) σ;
    qs = same_sound (totalₑ k) qₑ (every_piece_lem (λ k. same (totalₑ k) qₑ) tt k) σ;
  }

  pub weighing : (k : Piece) → On k P → Weighing k P
  weighing k o =
      let (hu, hv, hw) = not_negative k o.in_cell (inside k P o.in_triangle) in
      let (u, eu) = nonneg_pos hu in
      let (v, ev) = nonneg_pos hv in
      let (w, ew) = nonneg_pos hw in
      let h : Weighs k (pos u) (pos v) (pos w) = subst₃ (λ x y z. Weighs k x y z) eu ev ew (weighs k) in
      record {
        u = u;
        v = v;
        w = w;
        above = subst⁻¹ (λ n. 0 < n) (pos_inj h.qs) (mul-pos P.r.denominator.above P.s.denominator.above);
        point = record { rs = record { crossed = h.rs }; ss = record { crossed = h.ss } };
      }
