-- Division that rounds down: the laws of `floor_div`. Assumes nothing.
use mathlib.Core.Path.{◌≡◌, sym, ◌∙◌, ap}
use mathlib.Core.List.{[], ◌∷◌}
use Prim.Native.Nat.{ℕ, zero, suc, ◌+◌, ◌*◌, ◌-◌, ◌/◌, ◌%◌, ◌<◌}
use native.Mathlib.Nat.{div-add-mod', mod-lt, suc-mul}
use native.Mathlib.Omega.{arith}
use lib.IntN.{ℤ, pos, negsuc, neg_ℤ, ◌+ℤ◌, ◌*ℤ◌}
use lib.Signed.{◌≤ℤ◌, ◌<ℤ◌}
use Rattle.integers.specs.Floor.{floor_div, FloorLaws}
use Rattle.integers.proofs.Polynomial.{#◌, ◌⊕◌, ◌⊗◌}
use Rattle.integers.proofs.Solve.{◌≐◌, ◌≺◌}
use Rattle.integers.proofs.Order.{subℕ_neg, le_of_difference, ≤ℤ_antisym, ≤ℤ-<ℤ_trans, below_next, <→<ℤ}
use Rattle.integers.proofs.Deduce.{◌·◌, ◌⊨◌, deduce}

remainder : ℤ → ℕ → ℕ
remainder (pos a) d = a % d
remainder (negsuc a) d = d - suc (a % d)

-- n = q d + r with r < d
divided : (n : ℤ) (d : ℕ) → zero < d → n ≡ floor_div n d *ℤ pos d +ℤ pos (remainder n d)
unfolding floor_div remainder
divided (pos a) d h = ap pos (sym (div-add-mod' a d))
divided (negsuc a) d h =
    let m : a % d < d = mod-lt a h in
    let e : a / d * d + a % d ≡ a = div-add-mod' a d in
    let f : suc (a / d) * d ≡ a / d * d + d = suc-mul (a / d) d in
    let g : suc (a + (d - suc (a % d))) ≡ suc (a / d) * d = omega arith in
    sym (borrowed a (d - suc (a % d))) ∙ ap (λ N. neg_ℤ (pos N) +ℤ pos (d - suc (a % d))) g
  where
    borrowed : (a r : ℕ) → neg_ℤ (pos (suc (a + r))) +ℤ pos r ≡ negsuc a
    borrowed a r = subℕ_neg r (suc (a + r)) a (omega arith)

remainder_below : (n : ℤ) (d : ℕ) → zero < d → remainder n d < d
unfolding remainder
remainder_below (pos a) d h = mod-lt a h
remainder_below (negsuc a) d h = omega arith

lower : (n : ℤ) (d : ℕ) → zero < d → (floor_div n d *ℤ pos d) ≤ℤ n
lower n d h = le_of_difference (floor_div n d *ℤ pos d) n (remainder n d) (divided n d h)

upper : (n : ℤ) (d : ℕ) → zero < d → n <ℤ ((floor_div n d +ℤ pos 1) *ℤ pos d)
upper n d h = deduce 4 (λ n q d r. (# 1 · (n ≐ q ⊗ d ⊕ r)) ∷ (# 1 · (r ≺ d)) ∷ [] ⊨ n ≺ (q ⊕ # 1) ⊗ d) tt
    n (floor_div n d) (pos d) (pos (remainder n d)) (divided n d h) (<→<ℤ (remainder_below n d h))

-- two quotients of one number
ordered : (n p q : ℤ) (d : ℕ) → (p *ℤ pos d) ≤ℤ n → n <ℤ ((q +ℤ pos 1) *ℤ pos d) → p ≤ℤ q
ordered n p q d h k = below_next p q d (≤ℤ-<ℤ_trans h k)

unique : (n q : ℤ) (d : ℕ) → zero < d → (q *ℤ pos d) ≤ℤ n → n <ℤ ((q +ℤ pos 1) *ℤ pos d) → floor_div n d ≡ q
unique n q d p h k = ≤ℤ_antisym (ordered n (floor_div n d) q d (lower n d p) k) (ordered n q (floor_div n d) d h (upper n d p))

pub floor_laws : FloorLaws
floor_laws = record { lower = lower; upper = upper; unique = unique }
