-- What valid zones leave of a level, one after the other: the last one's limits, and nothing beyond ±262,080. Assumes nothing.
use Prim.Native.Nat.{◌*◌}
use mathlib.Core.Path.{◌≡◌, refl}
use mathlib.Core.List.{List, [], ◌∷◌, ◌++◌}
use lib.IntN.{ℤ, pos, ◌*ℤ◌}
use lib.Signed.{◌≤ℤ◌}
use Rattle.integers.specs.Within.{◌within◌}
use Rattle.integers.proofs.Polynomial.{#◌, ◌⊗◌}
use Rattle.integers.proofs.Solve.{◌≼◌}
use Rattle.integers.proofs.Order.{≤ℤ_trans}
use Rattle.integers.proofs.Deduce.{◌·◌, ◌⊨◌, deduce}
use Rattle.integers.proofs.Bounds.{within_self, within-*, within_lower, within_upper, within_of_range}
use Rattle.sheet_calls.specs.Rules.{Each}
use Rattle.sheet_zones.specs.Zones.{Zone, in_grains, raised, lowered, limited}
use Rattle.sheet_zones.specs.ZoneLaws.{ValidZone, Between}
use Rattle.sheet_zones.proofs.Limits.{limit≤raised, lowered≤limit, ≤lowered}

pub none : (level : ℤ) → limited [] level ≡ level
unfolding limited
none level = refl

pub first : (z : Zone) (zs : List Zone) (level : ℤ) → limited (z ∷ zs) level ≡ limited zs (lowered (pos 64 *ℤ z.ceiling) (raised (pos 64 *ℤ z.floor) level))
unfolding limited
first z zs level = refl

grains_rise : {a b : ℤ} → a ≤ℤ b → (in_grains a) ≤ℤ (in_grains b)
grains_rise {a} {b} h = deduce 2 (λ a b. (# 64 · (a ≼ b)) ∷ [] ⊨ # 64 ⊗ a ≼ # 64 ⊗ b) tt a b h

pub one : (z : Zone) → ValidZone z → (level : ℤ) → Between z (limited (z ∷ []) level)
unfolding limited
one z r level = record { above = ≤lowered (grains_rise r.limits) (limit≤raised _ level); below = lowered≤limit _ _ }

-- zones, then others
limited_append : (before after : List Zone) (level : ℤ) → limited (before ++ after) level ≡ limited after (limited before level)
unfolding limited
limited_append [] after level = refl
limited_append (z ∷ before) after level = limited_append before after _

pub last : (before : List Zone) (z : Zone) → ValidZone z → (level : ℤ) → Between z (limited (before ++ z ∷ []) level)
last before z r level = rw (limited_append before (z ∷ []) level) (one z r (limited before level))

one_within : (z : Zone) → ValidZone z → (level : ℤ) → limited (z ∷ []) level within 262080
one_within z r level =
    let floor : in_grains z.floor within (64 * 4095) = within-* (within_self (pos 64)) r.floor in
    let ceiling : in_grains z.ceiling within (64 * 4095) = within-* (within_self (pos 64)) r.ceiling in
    let b = one z r level in
    within_of_range 262080 (≤ℤ_trans (within_lower floor) b.above) (≤ℤ_trans b.below (within_upper ceiling))

pub bounded : (z : Zone) (zs : List Zone) → Each ValidZone (z ∷ zs) → (level : ℤ) → limited (z ∷ zs) level within 262080
unfolding limited
bounded z [] rs level = one_within z rs.0 level
bounded z (next ∷ zs) rs level = bounded next zs rs.1 _
