-- What a caller of `Denominator::new` has: the result is prepared, and a numerator whose quotient is within 2²⁴ is in its reach. Assumes nothing.
use mathlib.Core.Path.{refl, subst}
use Prim.Native.Nat.{ℕ, ◌*◌, ◌^◌}
use native.Mathlib.Omega.{arith}
use lib.IntN.{ℤ, pos, nat_abs, ◌-ℤ◌, ◌*ℤ◌}
use Rattle.integers.specs.Within.{◌within◌}
use Rattle.integers.specs.Ratio.{Denominates}
use Rattle.integers.specs.Round.{round}
use Rattle.integers.specs.Constants.{constants, Prepared, InReach}
use Rattle.integers.specs.declared.Denominator.{Denominator}
use Rattle.integers.proofs.Polynomial.{◌⊝◌}
use Rattle.integers.proofs.Solve.{◌≐◌, solve}
use Rattle.integers.proofs.Rounding.{rounding_laws}
use Rattle.integers.proofs.Constants.{positive}
use Rattle.integers.proofs.Bounds.{nat_abs-*, within_self, within_mono, within--, within-*}

pub prepared : {d : ℤ} → Denominates d → Prepared (constants d)
unfolding constants
prepared h = record { denominator = h; computed = refl }

pub in_reach : {n d : ℤ} → Denominates d → n within (2 ^ 24 * nat_abs d) → InReach n (constants d)
unfolding constants
in_reach h k = record { prepared = prepared h; quotient = k }

pub numerator_within : {n d : ℤ} → Denominates d → n within (2 ^ 24 * nat_abs d) → n within (2 ^ 61)
numerator_within h k = within_mono k (omega (arith, h.small.bound))

-- and so is one whose level, the quotient rounded, is within 2²⁰
pub rounded_in_reach : {n : ℤ} {k : Denominator} → Prepared k → round n (nat_abs k.value) within (2 ^ 20) → InReach n k
rounded_in_reach {n} {k} h l = record { prepared = h; quotient = subst (λ z. z within (2 ^ 24 * d)) (solve 2 (λ x n. x ⊝ (x ⊝ n) ≐ n) tt product n) near }
  where
    d : ℕ
    d = nat_abs k.value

    product : ℤ
    product = round n d *ℤ pos d

    half : (pos 2 *ℤ (product -ℤ n)) within d
    half = rounding_laws.half_unit n d (positive h)

    near : (product -ℤ (product -ℤ n)) within (2 ^ 24 * d)
    near = within_mono (within-- (within-* l (within_self (pos d))) (within_self (product -ℤ n))) (omega (arith, half.bound, nat_abs-* (pos 2) (product -ℤ n)))
