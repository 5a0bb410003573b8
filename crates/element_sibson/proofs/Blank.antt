-- A set that meets the conditions and has nothing at the corners is 0. Seen from its own edge, with s the distance from it, a piece is s² (α + β r + γ s).
-- Where two pieces meet, their slopes at the centre and half way to the corner give α + β = 0 for the one and α = 0 for the next; so α = β = 0 for each, by a
-- quarter turn of the cell, and then γ = 0. Assumes nothing.
use mathlib.Core.Path.{◌≡◌, refl, sym, subst₂}
use mathlib.Core.List.{[], ◌∷◌}
use Prim.Native.Nat.{ℕ, ◌-◌, ◌*◌}
use native.Mathlib.Nat.{mul-pos}
use lib.Dec.{ltb→lt}
use lib.IntN.{ℤ, pos, neg_ℤ, ◌+ℤ◌, ◌*ℤ◌}
use lib.Signed.{le_z_yes}
use Rattle.element_sibson.specs.Fraction.{ℚ, ◌÷◌, positive, whole, half, complement}
use Rattle.element_sibson.specs.Cubic.{Cell, Point, Cubic, Power, one, r¹, s¹, r², rs, s², r³, r²s, rs², s³, coefficient, value, by_r, by_s, jet, ◌≋◌}
use Rattle.element_sibson.specs.Piece.{Piece, top, right, bottom, left, next, FourCubics, HalfDiagonal, left_top, right_top, at}
use Rattle.element_sibson.specs.Conditions.{Smooth, Meets, square_term, square_in_r}
use Rattle.integers.proofs.Polynomial.{Expr, #◌, ◌⊗◌, ◌⊕◌, ⊖◌}
use Rattle.integers.proofs.Solve.{Claim, ◌≐◌}
use Rattle.integers.proofs.Deduce.{◌·◌, ◌⊨◌, deduce, certified_sound}
use Rattle.integers.proofs.Order.{*ℤ_cancel_r}
use Rattle.element_sibson.proofs.Fractions.{≈_refl, ≈_sym, ≈_trans, ≈_once, ≈-÷_cancel, ≈-÷_zero}
use Rattle.element_sibson.proofs.Jets.{≋_sym, ≋_trans, none}
use Rattle.element_sibson.proofs.Quote.{◌/ₑ◌, nil, Cubicₑ, by_rₑ, by_sₑ, squareₑ, anyₑ, cubic}
use Rattle.element_sibson.proofs.Evaluate.{numerator, numeratorₑ, cubes, vanishes, numerators}
use Rattle.element_sibson.proofs.Rotation.{rotated, on_side, quarter, rotated_set, rotated_jet, ≋_quarter, smooth_rotated, square_rotated, NothingAtCorners, corners_rotated, zero_rotated}
use Rattle.element_sibson.proofs.Coefficients.{edgewise, Squared, is_edgewise, Zero}

-- a set that meets the conditions and has nothing at the corners; turned by a quarter it is one again
pub record Blank (C : Cell) (D : FourCubics) : Type 0 where
  pub meets : Meets C D
  pub corners : NothingAtCorners C D

blank_rotated : {C : Cell} {D : FourCubics} → Blank C D → Blank (on_side C) (rotated_set D)
unfolding rotated_set Smooth
blank_rotated {C} {D} b = record {
  meets = record {
    smooth = λ k. smooth_rotated C D k (b.meets.smooth (next k));
    linear = λ k. square_rotated k (D (next k)) (b.meets.linear (next k));
  };
  corners = corners_rotated C D b.corners;
}

-- ---- along the top edge

-- numerators of the value and of the derivatives at a corner
record Nothing (f : Cubic) (P : Point) : Type 0 where
  h : numerator f P ≡ pos 0
  x : numerator (by_r f) P ≡ pos 0
  y : numerator (by_s f) P ≡ pos 0

nothing_at : (C : Cell) (f : Cubic) (P : Point) → jet C f P ≋ none → Nothing f P
unfolding jet none
nothing_at C f P e = record {
  h = vanishes f P e.heights;
  x = vanishes (by_r f) P (≈-÷_zero C.W e.x_slopes);
  y = vanishes (by_s f) P (≈-÷_zero C.H e.y_slopes);
}

abbrev atₑ : Cubicₑ → ℕ → Expr
atₑ f a = numeratorₑ f (# a /ₑ # 1) (# 0 /ₑ # 1)

squares : (f : Cubic) → Nothing f (at left_top) → Nothing f (at right_top) → square_term top f ≡ pos 0 → Squared f
unfolding numerator by_r by_s square_term square_in_r
squares f a b q = record {
  z00 = certified_sound ((# 1 · nil (atₑ anyₑ 0)) ∷ []) (nil anyₑ.c00) tt (cubic f []) a.h;
  z10 = certified_sound ((# 1 · nil (atₑ (by_rₑ anyₑ) 0)) ∷ []) (nil anyₑ.c10) tt (cubic f []) a.x;
  z01 = certified_sound ((# 1 · nil (atₑ (by_sₑ anyₑ) 0)) ∷ []) (nil anyₑ.c01) tt (cubic f []) a.y;
  z20 = certified_sound ((⊖ # 3 · nil (atₑ anyₑ 0)) ∷ (⊖ # 2 · nil (atₑ (by_rₑ anyₑ) 0)) ∷ (# 3 · nil (atₑ anyₑ 1)) ∷ (⊖ # 1 · nil (atₑ (by_rₑ anyₑ) 1)) ∷ [])
      (nil anyₑ.c20) tt (cubic f []) a.h a.x b.h b.x;
  z11 = certified_sound ((⊖ # 1 · nil (atₑ (by_sₑ anyₑ) 0)) ∷ (# 1 · nil (atₑ (by_sₑ anyₑ) 1)) ∷ (⊖ # 1 · nil (squareₑ top anyₑ)) ∷ [])
      (nil anyₑ.c11) tt (cubic f []) a.y b.y q;
  z30 = certified_sound ((# 2 · nil (atₑ anyₑ 0)) ∷ (# 1 · nil (atₑ (by_rₑ anyₑ) 0)) ∷ (⊖ # 2 · nil (atₑ anyₑ 1)) ∷ (# 1 · nil (atₑ (by_rₑ anyₑ) 1)) ∷ [])
      (nil anyₑ.c30) tt (cubic f []) a.h a.x b.h b.x;
  z21 = certified_sound ((# 1 · nil (squareₑ top anyₑ)) ∷ []) (nil anyₑ.c21) tt (cubic f []) q;
}

top_squared : {C : Cell} {D : FourCubics} → Blank C D → Squared (D top)
unfolding NothingAtCorners
top_squared {C} {D} b =
    squares (D top) (nothing_at C (D top) (at left_top) (b.corners top left_top tt)) (nothing_at C (D top) (at right_top) (b.corners top right_top tt)) (b.meets.linear top)

-- ---- where two pieces meet

-- the point of the half diagonal between top and right at height t, and where the turned right piece has it
abbrev meeting : ℚ → Point
meeting t = record { r = complement t; s = t }

abbrev turned_meeting : ℚ → Point
turned_meeting t = record { r = t; s = t }

-- the slopes of the top piece f and the turned right piece g there, as whole numbers
record Joint (f g : Cubic) (t : ℚ) : Type 0 where
  x : numerator (by_s f) (meeting t) *ℤ pos g.divisor.number ≡ pos 1 *ℤ numerator (by_r g) (turned_meeting t) *ℤ pos f.divisor.number
  y : numerator (by_s g) (turned_meeting t) *ℤ pos f.divisor.number ≡ neg_ℤ (pos 1) *ℤ numerator (by_r f) (meeting t) *ℤ pos g.divisor.number

joint : (C : Cell) (D : FourCubics) → Blank C D → (t : ℚ) → HalfDiagonal top (meeting t) → (cubes (meeting t)).number ≡ (cubes (turned_meeting t)).number →
    Joint (D top) (rotated (D right)) t
unfolding jet by_r by_s Smooth next
joint C D b t h e = let f = D top in let g = rotated (D right) in
    let j : quarter (jet C f (meeting t)) ≋ jet (on_side C) g (turned_meeting t) =
    ≋_trans {j = quarter (jet C f (meeting t))} {k = quarter (jet C (D right) (meeting t))} {l = jet (on_side C) g (turned_meeting t)}
    (≋_quarter (b.meets.smooth top (meeting t) h)) (≋_sym (rotated_jet C (D right) (turned_meeting t))) in
    record {
      x = numerators (by_s f) (by_r g) (meeting t) (turned_meeting t) (pos 1) e
          (≈_trans {y = value (by_r g) (turned_meeting t)} (≈-÷_cancel C.H j.x_slopes) (≈_once (value (by_r g) (turned_meeting t))));
      y = numerators (by_s g) (by_r f) (turned_meeting t) (meeting t) (neg_ℤ (pos 1)) (sym e) (≈-÷_cancel C.W (≈_sym j.y_slopes));
    }

abbrev edgewiseₑ : Expr → Expr → Expr → Expr → Cubicₑ
edgewiseₑ α β γ d = record { c00 = # 0; c10 = # 0; c01 = # 0; c20 = # 0; c11 = # 0; c02 = α; c30 = # 0; c21 = # 0; c12 = β; c03 = γ; divisor = d }

-- the two equations of a joint at 1/n
abbrev xₑ : Cubicₑ → Cubicₑ → ℕ → Claim
xₑ f g n = numeratorₑ (by_sₑ f) (# (n - 1) /ₑ # n) (# 1 /ₑ # n) ⊗ g.divisor ≐ # 1 ⊗ numeratorₑ (by_rₑ g) (# 1 /ₑ # n) (# 1 /ₑ # n) ⊗ f.divisor

abbrev yₑ : Cubicₑ → Cubicₑ → ℕ → Claim
yₑ f g n = numeratorₑ (by_sₑ g) (# 1 /ₑ # n) (# 1 /ₑ # n) ⊗ f.divisor ≐ ⊖ # 1 ⊗ numeratorₑ (by_rₑ f) (# (n - 1) /ₑ # n) (# 1 /ₑ # n) ⊗ g.divisor

abbrev a_quarter : ℚ
a_quarter = whole (pos 1) ÷ positive 4 tt

-- what the joints at 1/2 and 1/4 say of a piece f and the next, g
module _ (f g : Cubic) (h : Joint (edgewise f) (edgewise g) half) where
  abbrev d : ℤ
  d = pos f.divisor.number

  abbrev d' : ℤ
  d' = pos g.divisor.number

  at_the_end : Joint (edgewise f) (edgewise g) a_quarter → f.c02 +ℤ f.c12 ≡ pos 0
  unfolding numerator by_r by_s
  at_the_end q = *ℤ_cancel_r (1024 * g.divisor.number) (mul-pos (ltb→lt 0 1024 tt) g.divisor.above)
      (deduce 8 (λ α β γ d α' β' γ' d'. let f = edgewiseₑ α β γ d in let g = edgewiseₑ α' β' γ' d' in
      (⊖ # 16 · xₑ f g 2) ∷ (# 1 · xₑ f g 4) ∷ [] ⊨ (α ⊕ β) ⊗ (# 1024 ⊗ d') ≐ # 0 ⊗ (# 1024 ⊗ d')) tt
      f.c02 f.c12 f.c03 d g.c02 g.c12 g.c03 d' h.x q.x)

  at_the_start : Joint (edgewise f) (edgewise g) a_quarter → g.c02 ≡ pos 0
  unfolding numerator by_r by_s
  at_the_start q = *ℤ_cancel_r (1024 * f.divisor.number) (mul-pos (ltb→lt 0 1024 tt) f.divisor.above)
      (deduce 8 (λ α β γ d α' β' γ' d'. let f = edgewiseₑ α β γ d in let g = edgewiseₑ α' β' γ' d' in
      (⊖ # 16 · yₑ f g 2) ∷ (# 1 · yₑ f g 4) ∷ [] ⊨ α' ⊗ (# 1024 ⊗ d) ≐ # 0 ⊗ (# 1024 ⊗ d)) tt
      f.c02 f.c12 f.c03 d g.c02 g.c12 g.c03 d' h.y q.y)

  cubed : f.c02 ≡ pos 0 → f.c12 ≡ pos 0 → g.c12 ≡ pos 0 → f.c03 ≡ pos 0
  unfolding numerator by_r by_s
  cubed a b b' = *ℤ_cancel_r (48 * g.divisor.number) (mul-pos (ltb→lt 0 48 tt) g.divisor.above)
      (deduce 8 (λ α β γ d α' β' γ' d'. let f = edgewiseₑ α β γ d in let g = edgewiseₑ α' β' γ' d' in
      (# 1 · xₑ f g 2) ∷ (⊖ # 64 ⊗ d' · (α ≐ # 0)) ∷ (⊖ # 32 ⊗ d' · (β ≐ # 0)) ∷ (# 16 ⊗ d · (β' ≐ # 0)) ∷ [] ⊨ γ ⊗ (# 48 ⊗ d') ≐ # 0 ⊗ (# 48 ⊗ d')) tt
      f.c02 f.c12 f.c03 d g.c02 g.c12 g.c03 d' h.x a b b')

-- ---- so every piece is 0

module _ {C : Cell} {D : FourCubics} (b : Blank C D) where
  joints : (t : ℚ) → HalfDiagonal top (meeting t) → (cubes (meeting t)).number ≡ (cubes (turned_meeting t)).number →
      Joint (edgewise (D top)) (edgewise (rotated (D right))) t
  unfolding rotated_set next
  joints t h e =
      subst₂ (λ f g. Joint f g t) (is_edgewise (D top) (top_squared b)) (is_edgewise (rotated (D right)) (top_squared (blank_rotated b))) (joint C D b t h e)

  at_half : Joint (edgewise (D top)) (edgewise (rotated (D right))) half
  unfolding HalfDiagonal cubes
  at_half = joints half (≈_refl (complement half), record { crossed = le_z_yes tt }, record { crossed = le_z_yes tt }) refl

  at_quarter : Joint (edgewise (D top)) (edgewise (rotated (D right))) a_quarter
  unfolding HalfDiagonal cubes
  at_quarter = joints a_quarter (≈_refl (complement a_quarter), record { crossed = le_z_yes tt }, record { crossed = le_z_yes tt }) refl

  end : (D top).c02 +ℤ (D top).c12 ≡ pos 0
  end = at_the_end (D top) (rotated (D right)) at_half at_quarter

  start : (rotated (D right)).c02 ≡ pos 0
  start = at_the_start (D top) (rotated (D right)) at_half at_quarter

-- α and α + β are 0: so is β
other : (a b : ℤ) → a ≡ pos 0 → a +ℤ b ≡ pos 0 → b ≡ pos 0
other a b e h = deduce 2 (λ a b. (⊖ # 1 · (a ≐ # 0)) ∷ (# 1 · (a ⊕ b ≐ # 0)) ∷ [] ⊨ b ≐ # 0) tt a b e h

turned_right : {C : Cell} {D : FourCubics} → Blank C D → Zero (rotated (D right))
unfolding Zero rotated_set next
turned_right {C} {D} b =
    let e = blank_rotated b in let g = rotated (D right) in
    let β : g.c12 ≡ pos 0 = other g.c02 g.c12 (start b) (end e) in
    let g' = rotated (rotated_set D right) in
    let β' : g'.c12 ≡ pos 0 = other g'.c02 g'.c12 (start e) (end (blank_rotated e)) in
    let z = top_squared e in
    zeros g z (start b) β (cubed g g' (at_half e) (start b) β β')
  where
    zeros : (g : Cubic) → Squared g → g.c02 ≡ pos 0 → g.c12 ≡ pos 0 → g.c03 ≡ pos 0 → (p : Power) → coefficient g p ≡ pos 0
    zeros g z α β γ one = z.z00
    zeros g z α β γ r¹ = z.z10
    zeros g z α β γ s¹ = z.z01
    zeros g z α β γ r² = z.z20
    zeros g z α β γ rs = z.z11
    zeros g z α β γ s² = α
    zeros g z α β γ r³ = z.z30
    zeros g z α β γ r²s = z.z21
    zeros g z α β γ rs² = β
    zeros g z α β γ s³ = γ

right_zero : {C : Cell} {D : FourCubics} → Blank C D → Zero (D right)
right_zero {C} {D} b = zero_rotated (D right) (turned_right b)

-- the others, by one, two and three quarter turns
pub all_zero : (C : Cell) (D : FourCubics) → Blank C D → (k : Piece) → Zero (D k)
unfolding rotated_set next
all_zero C D b right = right_zero b
all_zero C D b bottom = zero_rotated (D bottom) (right_zero (blank_rotated b))
all_zero C D b left = zero_rotated (D left) (zero_rotated (rotated (D left)) (right_zero (blank_rotated (blank_rotated b))))
all_zero C D b top =
    zero_rotated (D top) (zero_rotated (rotated (D top)) (zero_rotated (rotated (rotated (D top))) (right_zero (blank_rotated (blank_rotated (blank_rotated b))))))
