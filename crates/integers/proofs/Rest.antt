-- What division that rounds down leaves, n − q d, for a denominator that is an integer above 0: as the code has it. Assumes nothing.
use mathlib.Core.Path.{◌≡◌, ◌∙◌, ap, subst}
use mathlib.Core.List.{[], ◌∷◌}
use Prim.Native.Nat.{ℕ, ◌+◌, ◌/◌, suc-le-suc}
use native.Mathlib.Nat.{div-le_self, le_trans}
use lib.IntN.{ℤ, pos, negsuc, nat_abs, ◌+ℤ◌, ◌-ℤ◌, ◌*ℤ◌}
use lib.Signed.{◌≤ℤ◌, ◌<ℤ◌}
use Rattle.integers.specs.Within.{◌within◌}
use Rattle.integers.specs.Floor.{floor_div}
use Rattle.integers.specs.Round.{round}
use Rattle.integers.proofs.Polynomial.{#◌, ◌⊕◌, ◌⊗◌, ◌⊝◌}
use Rattle.integers.proofs.Solve.{◌≐◌, ◌≺◌, solve}
use Rattle.integers.proofs.Order.{nonneg_difference, <ℤ→<}
use Rattle.integers.proofs.Deduce.{◌·◌, ◌⊨◌, deduce}
use Rattle.integers.proofs.Bounds.{is_within, within--, within_below}
use Rattle.integers.proofs.Operand.{Operand}
use Rattle.integers.proofs.Floors.{floor_laws}

pub floor_within : {n : ℤ} {N : ℕ} (d : ℕ) → n within N → floor_div n d within N
unfolding floor_div
floor_within {n = pos a} d h = is_within (pos (a / d)) (le_trans (div-le_self a d) h.bound)
floor_within {n = negsuc a} d h = is_within (negsuc (a / d)) (le_trans (suc-le-suc (div-le_self a d)) h.bound)

pub rest_low : (n : ℤ) {d : ℤ} → pos 0 <ℤ d → pos 0 ≤ℤ (n -ℤ floor_div n (nat_abs d) *ℤ d)
rest_low n {d = pos d} p = nonneg_difference (floor_laws.lower n d (<ℤ→< p))
rest_low n {d = negsuc d} p = absurd p.lt

pub rest_high : (n : ℤ) {d : ℤ} → pos 0 <ℤ d → (n -ℤ floor_div n (nat_abs d) *ℤ d) <ℤ d
rest_high n {d = pos d} p =
    deduce 3 (λ n q d. (# 1 · (n ≺ (q ⊕ # 1) ⊗ d)) ∷ [] ⊨ n ⊝ q ⊗ d ≺ d) tt n (floor_div n d) (pos d) (floor_laws.upper n d (<ℤ→< p))
rest_high n {d = negsuc d} p = absurd p.lt

pub rest_within : (n : ℤ) {d : ℤ} {D : ℕ} → pos 0 <ℤ d → d within D → (n -ℤ floor_div n (nat_abs d) *ℤ d) within D
rest_within n p h = within_below (rest_low n p) (rest_high n p) h

-- the multiple of d at or below n is n less the rest
pub multiple_within : {n d : ℤ} {N D : ℕ} → pos 0 <ℤ d → n within N → d within D → (floor_div n (nat_abs d) *ℤ d) within (N + D)
multiple_within {n} {d} {N} {D} p h k = subst (λ z. z within (N + D))
    (solve 2 (λ n m. n ⊝ (n ⊝ m) ≐ m) tt n (floor_div n (nat_abs d) *ℤ d))
    (within-- h (rest_within n p k))

-- what `nearest` returns, x, is n over d rounded, whatever q is: q d and the rest are n again
pub rounded : (n : ℤ) (q d : Operand) {x rest : ℤ} → rest ≡ n -ℤ q.number *ℤ d.number
    → x ≡ round (q.read *ℤ d.read +ℤ rest) (nat_abs d.read) → x ≡ round n (nat_abs d.number)
rounded n q d p e = e ∙ (λ i. round (q.reads i *ℤ d.reads i +ℤ p i) (nat_abs (d.reads i)))
    ∙ ap (λ z. round z (nat_abs d.number)) (solve 3 (λ n q d. q ⊗ d ⊕ (n ⊝ q ⊗ d) ≐ n) tt n q.number d.number)
