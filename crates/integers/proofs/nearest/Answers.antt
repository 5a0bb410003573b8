-- `integers::nearest` meets its contract: below one half the number is nearest to q, above it to q + 1, and at one half the rule of ties says q + 1.
-- Assumes nothing.
use mathlib.Core.Path.{◌≡◌, sym, ◌∙◌}
use mathlib.Core.Logic.{◌⊎◌, inl, inr}
use mathlib.Core.List.{[], ◌∷◌}
use Prim.Native.Nat.{◌*◌, ◌≤◌, ◌<◌}
use lib.IntN.{ℤ, pos, negsuc, nat_abs, ◌+ℤ◌, ◌*ℤ◌}
use lib.Signed.{◌≤ℤ◌, ◌<ℤ◌, le_z_yes, clash_ℤ}
use mir.Syntax.{w64}
use Rattle.std.proofs.lemmas.Int.{to_z-of_z}
use Rattle.integers.specs.Round.{round}
use Rattle.integers.proofs.Polynomial.{#◌, ◌⊕◌, ◌⊗◌, ◌⊝◌}
use Rattle.integers.proofs.Solve.{◌≐◌, ◌≼◌, ◌≺◌}
use Rattle.integers.proofs.Order.{≤ℤ_trans, ≤ℤ-<ℤ_trans, ≤ℤ_or->, ≤ℤ_antisym, <ℤ→<, ≤→≤ℤ, <→<ℤ}
use Rattle.integers.proofs.Deduce.{◌·◌, ◌⊨◌, deduce}
use Rattle.integers.proofs.Rounding.{rounding_laws}
use Rattle.integers.proofs.Operand.{literal, known, ◌⊞◌, gives}
use Rattle.integers.proofs.nearest.Goals as goal

-- where r is below half of d
down : (q r d : ℤ) → pos 0 ≤ℤ r → r <ℤ d → (pos 2 *ℤ r) <ℤ d → q ≡ round (q *ℤ d +ℤ r) (nat_abs d)
down q r (negsuc k) low high h = clash_ℤ high (≤ℤ_trans (le_z_yes tt) low)
down q r (pos k) low high h = sym (rounding_laws.nearest (q *ℤ pos k +ℤ r) k (<ℤ→< (≤ℤ-<ℤ_trans low high)) q
    (deduce 3 (λ q r k. (# 3 · (# 0 ≼ r)) ∷ (# 1 · (r ≺ k)) ∷ [] ⊨ # 2 ⊗ (q ⊗ k ⊝ (q ⊗ k ⊕ r)) ≺ k) tt q r (pos k) low high)
    (deduce 3 (λ q r k. (# 1 · (# 2 ⊗ r ≺ k)) ∷ [] ⊨ # 2 ⊗ (q ⊗ k ⊕ r ⊝ q ⊗ k) ≺ k) tt q r (pos k) h))

-- where it is above, or a tie
up : (q r d : ℤ) → pos 0 ≤ℤ r → r <ℤ d → d ≤ℤ (pos 2 *ℤ r) → q +ℤ pos 1 ≡ round (q *ℤ d +ℤ r) (nat_abs d)
up q r (negsuc k) low high h = clash_ℤ high (≤ℤ_trans (le_z_yes tt) low)
up q r (pos k) low high h = sym (go (≤ℤ_or-> (pos 2 *ℤ r) (pos k)))
  where
    p : 0 < k
    p = <ℤ→< (≤ℤ-<ℤ_trans low high)

    go : ((pos 2 *ℤ r) ≤ℤ pos k) ⊎ (pos k <ℤ (pos 2 *ℤ r)) → round (q *ℤ pos k +ℤ r) k ≡ q +ℤ pos 1
    go (inl e) = rounding_laws.tie (q *ℤ pos k +ℤ r) k p q
        (deduce 3 (λ q r k. (# 1 · (# 2 ⊗ r ≐ k)) ∷ [] ⊨ # 2 ⊗ (q ⊗ k ⊕ r) ≐ (# 2 ⊗ q ⊕ # 1) ⊗ k) tt q r (pos k) (≤ℤ_antisym e h))
    go (inr e) = rounding_laws.nearest (q *ℤ pos k +ℤ r) k p (q +ℤ pos 1)
        (deduce 3 (λ q r k. (# 1 · (k ≺ # 2 ⊗ r)) ∷ [] ⊨ # 2 ⊗ ((q ⊕ # 1) ⊗ k ⊝ (q ⊗ k ⊕ r)) ≺ k) tt q r (pos k) e)
        (deduce 3 (λ q r k. (# 3 · (r ≺ k)) ∷ (# 1 · (# 0 ≼ r)) ∷ [] ⊨ # 2 ⊗ (q ⊗ k ⊕ r ⊝ (q ⊕ # 1) ⊗ k) ≺ k) tt q r (pos k) high low)

-- what the machine compares are the absolute values of 2 r and d, neither of them negative
below_half : (r d : ℤ) → pos 0 ≤ℤ r → pos 0 <ℤ d → 2 * nat_abs r < nat_abs d → (pos 2 *ℤ r) <ℤ d
below_half (pos r) (pos d) low high h = <→<ℤ h
below_half (pos r) (negsuc d) low high h = absurd high.lt
below_half (negsuc r) d low high h = absurd low.le

from_half : (r d : ℤ) → pos 0 ≤ℤ r → nat_abs d ≤ 2 * nat_abs r → d ≤ℤ (pos 2 *ℤ r)
from_half (pos r) (pos d) low h = ≤→≤ℤ h
from_half (pos r) (negsuc d) low h = le_z_yes tt
from_half (negsuc r) d low h = absurd low.le

pub returns-then-rest-d : goal.returns-then-rest-d
returns-then-rest-d c = let r = c.requires in
    let less = rw (to_z-of_z w64 c.args.rest c.ranges.rest, to_z-of_z w64 c.args.d c.ranges.d) at c.if-rest-d.true in
    to_z-of_z w64 c.args.q c.ranges.q ∙ down c.args.q _ c.args.d r.2 r.3 (below_half _ _ r.2 r.1.positive less)

pub returns-else-rest-d : goal.returns-else-rest-d
returns-else-rest-d c = let r = c.requires in
    let least = rw (to_z-of_z w64 c.args.rest c.ranges.rest, to_z-of_z w64 c.args.d c.ranges.d) at c.if-rest-d.false in
    gives w64 (known w64 r.0 tt ⊞ literal (pos 1)) tt ∙ up c.args.q _ c.args.d r.2 r.3 (from_half _ _ r.2 least)
