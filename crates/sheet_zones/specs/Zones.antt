-- Zones on the screen (02, #106): a lent list of zones, which of them hold a pixel, and what these do to a level there. Assumes nothing.
use Rattle.std.specs.Prelude.{ℕ, zero, suc, ◌+◌, ◌*◌, ◌/◌, ◌%◌, List, [], ◌∷◌, Bool, cond, not, ◌&&◌, ◌||◌, ltb, leb, eqb, ℤ, nat_abs, ◌*ℤ◌, length}
use Rattle.std.specs.Int.Signed.{lt_z}
use Rattle.sheet_words.specs.Word.{word_at, signed}
use Rattle.sheet_layout.specs.Some.{some}
use Rattle.sheet_layout.specs.Format.{grains_per_step}
use Rattle.sheet_calls.specs.Rules.{Rule, rule, first_refusal}

-- ---- the list

-- a zone: the pixels from left to right and from top to bottom, all four inclusive; its limits in steps
pub record Zone : Type 0 where
  pub left : ℕ
  pub top : ℕ
  pub right : ℕ
  pub bottom : ℕ
  pub floor : ℤ
  pub ceiling : ℤ

-- a zone has 12 bytes, a list at most 16 zones
abbrev pub zone_size : ℕ
zone_size = 12

abbrev pub most_bytes : ℕ
most_bytes = 192

-- the zone in the 12 bytes at index k
unfoldable pub zone_in : List ℕ → ℕ → Zone
zone_in b k = record {
  left = word_at b k;
  top = word_at b (k + 2);
  right = word_at b (k + 4);
  bottom = word_at b (k + 6);
  floor = signed (word_at b (k + 8));
  ceiling = signed (word_at b (k + 10));
}

-- zone k of the list, counted from 0
abbrev pub zone_at : List ℕ → ℕ → Zone
zone_at b k = zone_in b (zone_size * k)

-- how many there are
abbrev pub zone_count : List ℕ → ℕ
zone_count b = length b / zone_size

-- n zones in list order, from zone k on
unfoldable pub zones_from : List ℕ → ℕ → ℕ → List Zone
zones_from b k zero = []
zones_from b k (suc n) = zone_at b k ∷ zones_from b (suc k) n

-- all of them
unfoldable pub zones_of : List ℕ → List Zone
zones_of b = zones_from b 0 (zone_count b)

-- ---- the zones that hold a pixel

-- the zone has pixels in row y
unfoldable pub crosses : Zone → ℕ → Bool
crosses z y = leb z.top y && leb y z.bottom

unfoldable pub holds : Zone → ℕ → ℕ → Bool
holds z x y = leb z.left x && leb x z.right && crosses z y

-- those of some zones that hold pixel (x, y), in the same order
unfoldable pub holding : ℕ → ℕ → List Zone → List Zone
holding x y [] = []
holding x y (z ∷ zs) = cond (holds z x y) (z ∷ holding x y zs) (holding x y zs)

-- those of the list
abbrev pub zones_at : List ℕ → ℕ → ℕ → List Zone
zones_at b x y = holding x y (zones_of b)

-- ---- what they do to a level, all in grains

-- a limit of so many steps
abbrev pub in_grains : ℤ → ℤ
in_grains z = grains_per_step *ℤ z

-- raised to the limit if below, lowered to it if above
unfoldable pub raised : ℤ → ℤ → ℤ
raised limit level = cond (lt_z level limit) limit level

unfoldable pub lowered : ℤ → ℤ → ℤ
lowered limit level = cond (lt_z limit level) limit level

-- one zone raises a level to the floor if below, then lowers it to the ceiling if above
abbrev pub limited_by : Zone → ℤ → ℤ
limited_by z level = lowered (in_grains z.ceiling) (raised (in_grains z.floor) level)

-- what the zones that hold a pixel do to a level there: each its part, in list order
unfoldable pub limited : List Zone → ℤ → ℤ
limited [] level = level
limited (z ∷ zs) level = limited zs (limited_by z level)

-- ---- when a list is refused

-- 18: its length is not a multiple of 12 or exceeds 192
unfoldable pub other_zones_length : List ℕ → Bool
other_zones_length b = not (eqb (length b % zone_size) 0) || ltb most_bytes (length b)

-- a limit from −4,095 to 4,095
unfoldable pub limit_in : ℤ → Bool
limit_in z = leb (nat_abs z) 4095

-- left above right, top above bottom, floor above ceiling, or a limit beyond ±4,095
unfoldable pub wrong_zone : Zone → Bool
wrong_zone z = ltb z.right z.left || ltb z.bottom z.top || lt_z z.ceiling z.floor || not (limit_in z.floor) || not (limit_in z.ceiling)

-- 19: such a zone
unfoldable pub wrong_zones : List ℕ → Bool
wrong_zones b = some (λ k. wrong_zone (zone_at b k)) (zone_count b)

-- the rules of the two, for a call with a list of zones in its input
unfoldable pub zone_rules : {Input : Type 0} → (Input → List ℕ) → List (Rule Input)
zone_rules zones = rule 18 (λ u. other_zones_length (zones u)) ∷ rule 19 (λ u. wrong_zones (zones u)) ∷ []

-- the number of the first of the two that holds, or 0
unfoldable pub zones_refusal : List ℕ → ℕ
zones_refusal b = first_refusal (zone_rules (λ b. b)) b
