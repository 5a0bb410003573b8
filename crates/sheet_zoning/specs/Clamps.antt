-- What the code asks of a list of zones, and the clamp that the zones at a pixel make. Assumes nothing.
use Rattle.std.specs.Prelude.{ℕ, ◌+◌, ◌*◌, ◌^◌, ◌≤◌, ◌<◌, ◌≡◌, List, Bool, ◌&&◌, ℤ, pos, neg_ℤ, length}
use Rattle.std.specs.Int.Signed.{le_z}
use Rattle.sheet_zones.specs.Zones.{Zone, zone_size, holds, zones_at, raised, lowered, limited}
use Rattle.sheet_zoning.specs.declared.Clamp.{Clamp}

-- the list has a zone k
abbrev pub HasZone : List ℕ → ℕ → Type 0
HasZone b k = zone_size * k + zone_size ≤ length b

-- every level of a sheet is nearer to 0
abbrev pub level_bound : ℕ
level_bound = 2 ^ 20

-- what the zones that hold pixel (x, y) make of −2²⁰ and of 2²⁰, between which every level lies
unfoldable pub clamp_at : List ℕ → ℕ → ℕ → Clamp
clamp_at b x y = record { least = limited (zones_at b x y) (neg_ℤ (pos level_bound)); greatest = limited (zones_at b x y) (pos level_bound) }

-- a level brought between the two
unfoldable pub clamped : Clamp → ℤ → ℤ
clamped l level = lowered l.greatest (raised l.least level)

-- it leaves every level as it is
unfoldable pub leaves_all : Clamp → Bool
leaves_all l = le_z l.least (neg_ℤ (pos level_bound)) && le_z (pos level_bound) l.greatest

-- the n pixels from (x, y) to the right are all held by the zone, or none is
pub record Alike (z : Zone) (x y n : ℕ) : Type 0 where
  pub same : (k : ℕ) → k < n → holds z (x + k) y ≡ holds z x y

-- they are held by the same zones of the list
pub record Stretch (b : List ℕ) (x y n : ℕ) : Type 0 where
  pub same : (k : ℕ) → k < n → zones_at b (x + k) y ≡ zones_at b x y
