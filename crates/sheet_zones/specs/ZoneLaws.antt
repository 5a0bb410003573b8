-- What is shown of zones: what the conditions 18 and 19 say, which bytes and pixels a zone has, and what zones do to a level. Assumes nothing.
use Rattle.std.specs.Prelude.{ℕ, ◌+◌, ◌*◌, ◌≤◌, ◌<◌, ◌≡◌, ◌↔◌, List, [], ◌∷◌, ◌++◌, map, true, false, ℤ, pos, ◌*ℤ◌, length, get_or, ◌≤ℤ◌, ◌<ℤ◌}
use Rattle.integers.specs.Within.{◌within◌}
use Rattle.sheet_words.specs.Word.{byte_at, signed}
use Rattle.sheet_calls.specs.Rules.{Each}
use Rattle.sheet_zones.specs.Zones.{Zone, zone_at, zones_of, holds, holding, raised, lowered, limited, other_zones_length, wrong_zones, zone_rules, zones_refusal}

-- pixel (x, y) lies in the zone: both sides, top and bottom are its own
pub record Holds (z : Zone) (x y : ℕ) : Type 0 where
  pub left : z.left ≤ x
  pub right : x ≤ z.right
  pub top : z.top ≤ y
  pub bottom : y ≤ z.bottom

-- what 19 asks of a zone
pub record ValidZone (z : Zone) : Type 0 where
  pub across : z.left ≤ z.right
  pub down : z.top ≤ z.bottom
  pub limits : z.floor ≤ℤ z.ceiling
  pub floor : z.floor within 4095
  pub ceiling : z.ceiling within 4095

-- the list has so many zones, at most 16, and no byte besides
pub record OfZones (b : List ℕ) : Type 0 where
  pub count : ℕ
  pub size : length b ≡ 12 * count
  pub few : count ≤ 16

-- each zone of the list is valid
abbrev pub EachValid : List ℕ → Type 0
EachValid b = (k : ℕ) → 12 * k + 12 ≤ length b → ValidZone (zone_at b k)

-- a level lies from the zone's floor to its ceiling; a step is 64 grains
pub record Between (z : Zone) (level : ℤ) : Type 0 where
  pub above : (pos 64 *ℤ z.floor) ≤ℤ level
  pub below : level ≤ℤ (pos 64 *ℤ z.ceiling)

-- the list, its zones, and those that hold a pixel
pub record ListLaws : Type 0 where
  pub eighteen : (b : List ℕ) → (other_zones_length b ≡ false) ↔ OfZones b
  pub nineteen : (b : List ℕ) → (wrong_zones b ≡ false) ↔ EachValid b
  -- in this order
  pub order : map (λ r. r.number) (zone_rules (λ (b : List ℕ). b)) ≡ 18 ∷ 19 ∷ []
  -- the lists that are not refused
  pub unrefused : (b : List ℕ) → (zones_refusal b ≡ 0) ↔ (OfZones b × EachValid b)
  -- a zone's numbers, byte by byte
  pub numbers : (b : List ℕ) (k at : ℕ) → at ≡ 12 * k → let z = zone_at b k in
      (z.left ≡ byte_at b at + byte_at b (at + 1) * 256) × (z.top ≡ byte_at b (at + 2) + byte_at b (at + 3) * 256)
      × (z.right ≡ byte_at b (at + 4) + byte_at b (at + 5) * 256) × (z.bottom ≡ byte_at b (at + 6) + byte_at b (at + 7) * 256)
      × (z.floor ≡ signed (byte_at b (at + 8) + byte_at b (at + 9) * 256)) × (z.ceiling ≡ signed (byte_at b (at + 10) + byte_at b (at + 11) * 256))
  -- the list has its zones in the order of their bytes
  pub many : (b : List ℕ) (n : ℕ) → length b ≡ 12 * n → length (zones_of b) ≡ n
  pub each : (b : List ℕ) (n k : ℕ) → length b ≡ 12 * n → k < n → (z : Zone) → get_or (zones_of b) k z ≡ zone_at b k
  -- which pixels a zone holds
  pub pixels : (z : Zone) (x y : ℕ) → (holds z x y ≡ true) ↔ Holds z x y
  -- of zones one after the other, those that hold a pixel: no others, none left out, in the same order
  pub none : (x y : ℕ) → holding x y [] ≡ []
  pub taken : (x y : ℕ) (z : Zone) (zs : List Zone) → Holds z x y → holding x y (z ∷ zs) ≡ z ∷ holding x y zs
  pub passed : (x y : ℕ) (z : Zone) (zs : List Zone) → ¬ Holds z x y → holding x y (z ∷ zs) ≡ holding x y zs

-- what zones that hold a pixel do to a level
pub record LimitLaws : Type 0 where
  -- raised if below, lowered if above, else as it was
  pub below : (limit level : ℤ) → level <ℤ limit → raised limit level ≡ limit
  pub not_below : (limit level : ℤ) → limit ≤ℤ level → raised limit level ≡ level
  pub above : (limit level : ℤ) → limit <ℤ level → lowered limit level ≡ limit
  pub not_above : (limit level : ℤ) → level ≤ℤ limit → lowered limit level ≡ level
  -- without a zone the level stays as it is, and the first of several does its part before those behind it; a limit of z steps is 64 z grains
  pub none : (level : ℤ) → limited [] level ≡ level
  pub first : (z : Zone) (zs : List Zone) (level : ℤ) → limited (z ∷ zs) level ≡ limited zs (lowered (pos 64 *ℤ z.ceiling) (raised (pos 64 *ℤ z.floor) level))
  -- with one zone it lies from its floor to its ceiling
  pub one : (z : Zone) → ValidZone z → (level : ℤ) → Between z (limited (z ∷ []) level)
  -- the last of them has its limits kept
  pub last : (before : List Zone) (z : Zone) → ValidZone z → (level : ℤ) → Between z (limited (before ++ z ∷ []) level)
  -- one zone or more leave nothing beyond ±262,080, which is 64 × 4,095
  pub bounded : (z : Zone) (zs : List Zone) → Each ValidZone (z ∷ zs) → (level : ℤ) → limited (z ∷ zs) level within 262080
  -- clamps make a clamp: whatever the zones' limits, a level from a to c is brought between what becomes of a and what becomes of c
  pub clamp : (zs : List Zone) (a level c : ℤ) → a ≤ℤ level → level ≤ℤ c → limited zs level ≡ lowered (limited zs c) (raised (limited zs a) level)
