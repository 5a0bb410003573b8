-- A zoned level beside the level: the same where no zone holds the pixel, else within the limits of the last that does. Assumes nothing.
use Prim.Native.Nat.{ℕ}
use mathlib.Core.Path.{◌≡◌, subst}
use mathlib.Core.Logic.{◌⊎◌, inl, inr}
use mathlib.Core.List.{List, [], ◌∷◌, ◌++◌}
use Rattle.integers.specs.Within.{◌within◌}
use Rattle.sheet_calls.specs.Rules.{Each}
use Rattle.sheet_zones.specs.Zones.{Zone, zones_at, limited, zones_refusal}
use Rattle.sheet_zones.specs.ZoneLaws.{ValidZone, Between}
use Rattle.sheet_zones.proofs.Conditions.{held_valid}
use Rattle.sheet_zones.proofs.Laws.{limit_laws}
use Rattle.surface_of_sheet.specs.Surface.{level}
use Rattle.surface_zones.specs.Zoned.{zoned_level}

-- what is so of each is so of the last
each_last : {A : Type 0} (P : A → Type 0) (before : List A) (a : A) → Each P (before ++ a ∷ []) → P a
each_last P [] a h = h.0
each_last P (b ∷ before) a h = each_last P before a h.1

module _ (s b : List ℕ) (x y : ℕ) where
  pub none : zones_at b x y ≡ [] → zoned_level s b x y ≡ level s x y
  unfolding zoned_level
  none e = rw e (limit_laws.none (level s x y))

  pub last : zones_refusal b ≡ 0 → (before : List Zone) (z : Zone) → zones_at b x y ≡ before ++ z ∷ [] → Between z (zoned_level s b x y)
  unfolding zoned_level
  last valid before z e = rw e (limit_laws.last before z (each_last ValidZone before z (subst (Each ValidZone) e (held_valid b x y valid))) (level s x y))

  pub bounded : zones_refusal b ≡ 0 → (zoned_level s b x y within 262080) ⊎ (zoned_level s b x y ≡ level s x y)
  unfolding zoned_level
  bounded valid = by (zones_at b x y) (held_valid b x y valid)
    where
      by : (zs : List Zone) → Each ValidZone zs → (limited zs (level s x y) within 262080) ⊎ (limited zs (level s x y) ≡ level s x y)
      by [] h = inr (limit_laws.none (level s x y))
      by (z ∷ zs) h = inl (limit_laws.bounded z zs h (level s x y))
