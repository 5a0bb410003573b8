-- Equal cubics are those with the same value at every point: a cubic that is 0 at ten points of a triangular lattice is 0. Assumes nothing.
use mathlib.Core.Path.{◌≡◌}
use mathlib.Core.List.{[], ◌∷◌}
use Prim.Native.Nat.{ℕ}
use lib.Dec.{ltb→lt}
use lib.IntN.{pos, ◌*ℤ◌}
use Rattle.element_sibson.specs.Fraction.{◌≈◌, ◌-ℚ◌, positive, whole}
use Rattle.element_sibson.specs.Cubic.{Cell, Point, Cubic, Power, one, r¹, s¹, r², rs, s², r³, r²s, rs², s³, coefficient, value, jet}
use Rattle.element_sibson.specs.Sense.{SameValues}
use Rattle.integers.proofs.Polynomial.{#◌, ◌⊗◌, ⊖◌}
use Rattle.integers.proofs.Solve.{Claim}
use Rattle.integers.proofs.Deduce.{◌·◌, certified_sound}
use Rattle.integers.proofs.Order.{*ℤ_cancel_r}
use Rattle.element_sibson.proofs.Fractions.{≈_trans, ≈_minus}
use Rattle.element_sibson.proofs.Quote.{◌/ₑ◌, nil, anyₑ, cubic}
use Rattle.element_sibson.proofs.Evaluate.{numerator, numeratorₑ, vanishes}
use Rattle.element_sibson.proofs.Coefficients.{Zero}
use Rattle.element_sibson.proofs.Difference.{difference, jet_difference, equal_of_zero, same_everywhere}

abbrev lattice : ℕ → ℕ → Point
lattice a b = record { r = whole (pos a); s = whole (pos b) }

abbrev at : ℕ → ℕ → Claim
at a b = nil (numeratorₑ anyₑ (# a /ₑ # 1) (# b /ₑ # 1))

sixfold : (f : Cubic) → ((a b : ℕ) → numerator f (lattice a b) ≡ pos 0) → (p : Power) → coefficient f p *ℤ pos 6 ≡ pos 0
unfolding numerator
sixfold f z one = certified_sound ((# 6 · at 0 0) ∷ []) (nil (anyₑ.c00 ⊗ # 6)) tt (cubic f []) (z 0 0)
sixfold f z r¹ = certified_sound
    ((⊖ # 11 · at 0 0) ∷ (# 18 · at 1 0) ∷ (⊖ # 9 · at 2 0) ∷ (# 2 · at 3 0) ∷ [])
    (nil (anyₑ.c10 ⊗ # 6)) tt (cubic f []) (z 0 0) (z 1 0) (z 2 0) (z 3 0)
sixfold f z s¹ = certified_sound
    ((⊖ # 11 · at 0 0) ∷ (# 18 · at 0 1) ∷ (⊖ # 9 · at 0 2) ∷ (# 2 · at 0 3) ∷ [])
    (nil (anyₑ.c01 ⊗ # 6)) tt (cubic f []) (z 0 0) (z 0 1) (z 0 2) (z 0 3)
sixfold f z r² = certified_sound
    ((# 6 · at 0 0) ∷ (⊖ # 15 · at 1 0) ∷ (# 12 · at 2 0) ∷ (⊖ # 3 · at 3 0) ∷ [])
    (nil (anyₑ.c20 ⊗ # 6)) tt (cubic f []) (z 0 0) (z 1 0) (z 2 0) (z 3 0)
sixfold f z rs = certified_sound
    ((# 12 · at 0 0) ∷ (⊖ # 15 · at 1 0) ∷ (# 3 · at 2 0) ∷ (⊖ # 15 · at 0 1) ∷ (# 18 · at 1 1) ∷ (⊖ # 3 · at 2 1) ∷ (# 3 · at 0 2) ∷ (⊖ # 3 · at 1 2) ∷ [])
    (nil (anyₑ.c11 ⊗ # 6)) tt (cubic f []) (z 0 0) (z 1 0) (z 2 0) (z 0 1) (z 1 1) (z 2 1) (z 0 2) (z 1 2)
sixfold f z s² = certified_sound
    ((# 6 · at 0 0) ∷ (⊖ # 15 · at 0 1) ∷ (# 12 · at 0 2) ∷ (⊖ # 3 · at 0 3) ∷ [])
    (nil (anyₑ.c02 ⊗ # 6)) tt (cubic f []) (z 0 0) (z 0 1) (z 0 2) (z 0 3)
sixfold f z r³ = certified_sound
    ((⊖ # 1 · at 0 0) ∷ (# 3 · at 1 0) ∷ (⊖ # 3 · at 2 0) ∷ (# 1 · at 3 0) ∷ [])
    (nil (anyₑ.c30 ⊗ # 6)) tt (cubic f []) (z 0 0) (z 1 0) (z 2 0) (z 3 0)
sixfold f z r²s = certified_sound
    ((⊖ # 3 · at 0 0) ∷ (# 6 · at 1 0) ∷ (⊖ # 3 · at 2 0) ∷ (# 3 · at 0 1) ∷ (⊖ # 6 · at 1 1) ∷ (# 3 · at 2 1) ∷ [])
    (nil (anyₑ.c21 ⊗ # 6)) tt (cubic f []) (z 0 0) (z 1 0) (z 2 0) (z 0 1) (z 1 1) (z 2 1)
sixfold f z rs² = certified_sound
    ((⊖ # 3 · at 0 0) ∷ (# 3 · at 1 0) ∷ (# 6 · at 0 1) ∷ (⊖ # 6 · at 1 1) ∷ (⊖ # 3 · at 0 2) ∷ (# 3 · at 1 2) ∷ [])
    (nil (anyₑ.c12 ⊗ # 6)) tt (cubic f []) (z 0 0) (z 1 0) (z 0 1) (z 1 1) (z 0 2) (z 1 2)
sixfold f z s³ = certified_sound
    ((⊖ # 1 · at 0 0) ∷ (# 3 · at 0 1) ∷ (⊖ # 3 · at 0 2) ∷ (# 1 · at 0 3) ∷ [])
    (nil (anyₑ.c03 ⊗ # 6)) tt (cubic f []) (z 0 0) (z 0 1) (z 0 2) (z 0 3)

zero : (f : Cubic) → ((P : Point) → value f P ≈ whole (pos 0)) → Zero f
unfolding Zero
zero f h p = *ℤ_cancel_r 6 (ltb→lt 0 6 tt) (sixfold f (λ a b. vanishes f (lattice a b) (h (lattice a b))) p)

abbrev unit : Cell
unit = record { W = positive 1 tt; H = positive 1 tt }

no_difference : (f g : Cubic) → ((P : Point) → value f P ≈ value g P) → (P : Point) → value (difference f g) P ≈ whole (pos 0)
unfolding jet
no_difference f g h P = ≈_trans {y = value f P -ℚ value g P} (jet_difference unit f g P).heights (≈_minus (h P))

pub same_values_lem : SameValues
unfolding jet
same_values_lem = record {
  everywhere = λ f g. (λ e P. (same_everywhere unit f g e P).heights, λ h. equal_of_zero f g (zero (difference f g) (no_difference f g h)));
}
