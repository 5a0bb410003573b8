-- `integers::floor_div` meets its contract. Above 0 the machine's quotient is rounded down; a number −1 − a below 0 has the quotient −1 − a / d.
-- Assumes nothing.
use mathlib.Core.Path.{◌≡◌, refl, ◌∙◌, ap}
use Prim.Native.Nat.{ℕ, zero, suc, ◌/◌}
use native.Mathlib.Nat.{zero-add}
use native.Mathlib.Omega.{arith}
use lib.IntN.{ℤ, pos, negsuc, nat_abs, ◌-ℤ◌}
use lib.Signed.{quot_z, ◌<ℤ◌, ◌≤ℤ◌}
use mir.Syntax.{w64}
use Rattle.integers.specs.Floor.{floor_div}
use Rattle.integers.specs.Ratio.{Ratio}
use Rattle.integers.proofs.Order.{reflected, <ℤ→<}
use Rattle.integers.proofs.Operand.{Operand, literal, known, stored, ◌⊟◌, ◌⊘◌, gives, less, not_less}
use Rattle.integers.proofs.floor_div.Goals as goal

minus_one_minus : (q : ℕ) → negsuc 0 -ℤ pos q ≡ negsuc q
minus_one_minus zero = refl
minus_one_minus (suc q) = ap (λ (k : ℕ). negsuc (suc k)) (zero-add q)

below : (n d : ℤ) → n <ℤ pos 0 → pos 0 <ℤ d → negsuc 0 -ℤ quot_z (negsuc 0 -ℤ n) d ≡ floor_div n (nat_abs d)
unfolding floor_div
below (pos a) d h p = absurd (omega (arith, <ℤ→< h))
below (negsuc a) (pos b) h p = ap (λ z. negsuc 0 -ℤ quot_z z (pos b)) (reflected a) ∙ minus_one_minus (a / b)
below (negsuc a) (negsuc b) h p = absurd p.lt

above : (n d : ℤ) → pos 0 ≤ℤ n → pos 0 <ℤ d → quot_z n d ≡ floor_div n (nat_abs d)
unfolding floor_div
above (pos a) (pos b) h p = refl
above (pos a) (negsuc b) h p = absurd p.lt
above (negsuc a) d h p = absurd h.le

abbrev n : {n d : ℤ} → Ratio n d → Operand
n r = known w64 r.numerator tt

abbrev d : {n d : ℤ} → Ratio n d → Operand
d r = known w64 r.denominator.small tt

-- −1 − n, that over d, and −1 less that
abbrev mirrored : {n d : ℤ} → Ratio n d → Operand
mirrored r = literal (negsuc 0) ⊟ n r

abbrev quotient : {n d : ℤ} → Ratio n d → Operand
quotient r = stored w64 (mirrored r) tt ⊘ d r

abbrev result : {n d : ℤ} → Ratio n d → Operand
result r = literal (negsuc 0) ⊟ stored w64 (quotient r) tt

pub returns-then-n-lt0 : goal.returns-then-n-lt0
returns-then-n-lt0 c = let r = c.requires in
    gives w64 (result r) tt ∙ below _ _ (less (n r) (literal (pos 0)) c.if-n-lt0.true) r.denominator.positive

pub returns-else-n-lt0 : goal.returns-else-n-lt0
returns-else-n-lt0 c = let r = c.requires in
    gives w64 (n r ⊘ d r) tt ∙ above _ _ (not_less (n r) (literal (pos 0)) c.if-n-lt0.false) r.denominator.positive
