-- Bounds along a row: of a polynomial in s, and of the cubic in the offset. Assumes nothing.
use mathlib.Core.Path.{subst⁻¹}
use mathlib.Core.List.{List, [], ◌∷◌}
use Prim.Native.Nat.{ℕ, ◌+◌, ◌*◌, ◌^◌, ◌≤◌}
use native.Mathlib.Nat.{le_trans}
use native.Mathlib.Omega.{arith}
use lib.ListN.{get_or}
use lib.IntN.{ℤ, pos, nat_abs}
use Rattle.integers.specs.Within.{◌within◌}
use Rattle.integers.proofs.Bounds.{within_self, within_mono, within-+, within-*}
use Rattle.element_sibson.specs.Cubic.{Cell, Cubic}
use Rattle.element_cell.specs.Cell.{Side, cell}
use Rattle.element_cell.specs.Corners.{largest}
use Rattle.element_cell.specs.Coefficients.{listed, size, halves, Sized}
use Rattle.element_cell.proofs.Sides.{length_within, square_within, cube_within, side_is}
use Rattle.element_row_cubic.specs.Row.{down, along_row, reach}
use Rattle.element_row_cubic.proofs.Limits.{reach_limit}

-- the first four
unfoldable four : List ℤ → ℕ
four zs = nat_abs (get_or zs 0 (pos 0)) + nat_abs (get_or zs 1 (pos 0)) + nat_abs (get_or zs 2 (pos 0)) + nat_abs (get_or zs 3 (pos 0))

four_in_size : (zs : List ℤ) → four zs ≤ size zs
unfolding size four
four_in_size [] = omega arith
four_in_size (a ∷ []) = omega arith
four_in_size (a ∷ b ∷ []) = omega arith
four_in_size (a ∷ b ∷ c ∷ []) = omega arith
four_in_size (a ∷ b ∷ c ∷ d ∷ zs) = omega arith

pub down_within : (c : List ℤ) {b h : ℕ} → b ≤ 64 → h ≤ 64 → down c b h within (size c * 2 ^ 18)
unfolding down four
down_within c {b} {h} u v =
    within_mono
    (within-+ (within-+ (within-+
    (within-* (within_self (get_or c 0 (pos 0))) (cube_within v))
    (within-* (within_self (get_or c 1 (pos 0))) (within-* (within-* (length_within u) (length_within v)) (length_within v))))
    (within-* (within_self (get_or c 2 (pos 0))) (within-* (square_within u) (length_within v))))
    (within-* (within_self (get_or c 3 (pos 0))) (cube_within u)))
    (omega (arith, four_in_size c))

-- p₀ + 64 (p₁ + 64 (p₂ + 64 p₃)), where pᵢ is w³⁻ⁱ times the polynomial in s that stands at rⁱ
along_row_reach : (C : Cell) (f : Cubic) (b : ℕ) → C.W.number ≤ 64 → C.H.number ≤ 64 → b ≤ 64 → size (listed f) ≤ 256 * largest → reach (along_row C f b) ≤ reach_limit
unfolding along_row reach listed size
along_row_reach C f b w h u s =
    let p₀ = (within-* (cube_within w) (polynomial (f.c00 ∷ f.c01 ∷ f.c02 ∷ f.c03 ∷ []))).bound in
    let p₁ = (within-* (square_within w) (polynomial (f.c10 ∷ f.c11 ∷ f.c12 ∷ []))).bound in
    let p₂ = (within-* (length_within w) (polynomial (f.c20 ∷ f.c21 ∷ []))).bound in
    let p₃ = (polynomial (f.c30 ∷ [])).bound in
    omega (arith, s, p₀, p₁, p₂, p₃)
  where
    polynomial : (c : List ℤ) → down c b C.H.number within (size c * 2 ^ 18)
    polynomial c = down_within c u h

pub row_reach : {k : List ℤ} {w h b : ℕ} → Sized k → Side w → Side h → b ≤ h → reach (along_row (cell w h) (halves k) b) ≤ reach_limit
unfolding cell
row_reach {k} {w} {h} {b} s u v down = along_row_reach (cell w h) (halves k) b
    (subst⁻¹ (λ (l : ℕ). l ≤ 64) (side_is u) u.most) (subst⁻¹ (λ (l : ℕ). l ≤ 64) (side_is v) v.most) (le_trans down v.most) s.sum
