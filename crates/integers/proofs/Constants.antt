-- The constants of a denominator: how large they are, and how large what is computed with them is. Assumes nothing.
use mathlib.Core.Path.{◌≡◌, subst⁻¹}
use Prim.Native.Nat.{ℕ, ◌+◌, ◌*◌, ◌/◌, ◌%◌, ◌^◌, ◌≤◌, ◌<◌}
use native.Mathlib.Nat.{le_trans, le_refl, mul-le-mul, mul_assoc, mul_comm, mul-div-le, mod-lt, div-add-mod', div-le_self, div-le_of_le-mul, le-div_iff_mul-le}
use native.Mathlib.Omega.{arith}
use lib.IntN.{ℤ, pos, negsuc, nat_abs, ◌*ℤ◌}
use lib.Signed.{quot_z, ◌<ℤ◌}
use Rattle.integers.specs.declared.Denominator.{Denominator}
use Rattle.integers.specs.Within.{◌within◌}
use Rattle.integers.specs.Ratio.{Denominates}
use Rattle.integers.specs.Constants.{constants, Prepared}
use Rattle.integers.proofs.Order.{<ℤ→<, <→<ℤ}
use Rattle.integers.proofs.Bounds.{is_within, nat_abs-*}

-- ---- in ℕ

raised_most : (d : ℕ) → d * (2 ^ 37 / d) ≤ 2 ^ 37
raised_most d = mul-div-le (2 ^ 37) d

raised_least : (d : ℕ) → 0 < d → d ≤ 2 ^ 37 → 2 ^ 36 ≤ d * (2 ^ 37 / d)
raised_least d p h =
    let q : 2 ^ 37 / d * d + 2 ^ 37 % d ≡ 2 ^ 37 = div-add-mod' (2 ^ 37) d in
    let r : 2 ^ 37 % d < d = mod-lt (2 ^ 37) p in
    let one : 1 ≤ 2 ^ 37 / d = (le-div_iff_mul-le p).1 (omega arith) in
    let up : 1 * d ≤ 2 ^ 37 / d * d = mul-le-mul one (le_refl d) in
    let c : d * (2 ^ 37 / d) ≡ 2 ^ 37 / d * d = mul_comm d (2 ^ 37 / d) in
    omega arith

inverse_most : (d : ℕ) → 0 < d → d ≤ 2 ^ 37 → 2 ^ 62 / (d * (2 ^ 37 / d) / 4) ≤ 2 ^ 28
inverse_most d p h = div-le_of_le-mul _ (omega (arith, raised_least d p h))

-- a quotient within 2²⁴ leaves room for the scale
product_most : (d : ℕ) → 2 ^ 24 * d * (2 ^ 37 / d) ≤ 2 ^ 61
product_most d = rw mul_assoc (omega (arith, raised_most d))

-- ---- of a denominator d, as the machine computes them

pub raised_within : {d : ℤ} → pos 0 <ℤ d → (d *ℤ quot_z (pos (2 ^ 37)) d) within (2 ^ 37)
raised_within {d = pos d} p = is_within (pos (d * (2 ^ 37 / d))) (raised_most d)
raised_within {d = negsuc d} p = absurd p.lt

pub quarter_positive : {d : ℤ} → Denominates d → pos 0 <ℤ quot_z (d *ℤ quot_z (pos (2 ^ 37)) d) (pos 4)
quarter_positive {d = pos d} h = <→<ℤ (omega (arith, raised_least d (<ℤ→< h.positive) h.small.bound))
quarter_positive {d = negsuc d} h = absurd h.positive.lt

-- ---- of a denominator that is prepared

module _ {k : Denominator} (p : Prepared k) where
  pub positive : 0 < nat_abs k.value
  positive = above p.denominator.positive
    where
      above : {d : ℤ} → pos 0 <ℤ d → 0 < nat_abs d
      above {d = pos d} h = <ℤ→< h
      above {d = negsuc d} h = absurd h.lt

  pub scale_within : k.scale within (2 ^ 37)
  unfolding constants
  scale_within = is_within k.scale (subst⁻¹ (λ (c : Denominator). nat_abs c.scale ≤ 2 ^ 37) p.computed (div-le_self (2 ^ 37) (nat_abs k.value)))

  pub inverse_within : k.inverse within (2 ^ 28)
  unfolding constants
  inverse_within = is_within k.inverse (subst⁻¹ (λ (c : Denominator). nat_abs c.inverse ≤ 2 ^ 28) p.computed
      (inverse_most (nat_abs k.value) positive p.denominator.small.bound))

  pub product_within : {n : ℤ} → n within (2 ^ 24 * nat_abs k.value) → (n *ℤ k.scale) within (2 ^ 61)
  unfolding constants
  product_within {n} h = is_within (n *ℤ k.scale)
      (subst⁻¹ (λ a. a ≤ 2 ^ 61) (nat_abs-* n k.scale)
      (subst⁻¹ (λ (c : Denominator). nat_abs n * nat_abs c.scale ≤ 2 ^ 61) p.computed
      (le_trans (mul-le-mul h.bound (le_refl (2 ^ 37 / nat_abs k.value))) (product_most (nat_abs k.value)))))
