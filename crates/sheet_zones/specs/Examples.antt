-- A lamp's zone and a subtitle's, one over the other: their bytes, the pixels that they hold, what they do to a level in either order; and lists that are
-- refused. Assumes nothing.
use Rattle.std.specs.Prelude.{ℕ, ◌≡◌, List, [], ◌∷◌, ◌++◌, map, true, false, ℤ, pos, neg_ℤ, set, drop, replicate}
use Rattle.sheet_zones.specs.Zones.{Zone, zones_of, holds, zones_at, limited, zones_refusal}

-- from pixel (4, 1) to (8, 6) a ceiling of −10 steps; from (3, 0) to (7, 7) a floor of 20
abbrev pub lamp_bytes : List ℕ
lamp_bytes = 4 ∷ 0 ∷ 1 ∷ 0 ∷ 8 ∷ 0 ∷ 6 ∷ 0 ∷ 0x01 ∷ 0xF0 ∷ 0xF6 ∷ 0xFF ∷ []

abbrev pub subtitle_bytes : List ℕ
subtitle_bytes = 3 ∷ 0 ∷ 0 ∷ 0 ∷ 7 ∷ 0 ∷ 7 ∷ 0 ∷ 20 ∷ 0 ∷ 0xFF ∷ 0x0F ∷ []

-- the whole screen, from −4,095 to 4,095 steps
abbrev pub screen_bytes : List ℕ
screen_bytes = 0 ∷ 0 ∷ 0 ∷ 0 ∷ 0xFF ∷ 0xFF ∷ 0xFF ∷ 0xFF ∷ 0x01 ∷ 0xF0 ∷ 0xFF ∷ 0x0F ∷ []

abbrev pub lamp : Zone
lamp = record { left = 4; top = 1; right = 8; bottom = 6; floor = neg_ℤ (pos 4095); ceiling = neg_ℤ (pos 10) }

abbrev pub subtitle : Zone
subtitle = record { left = 3; top = 0; right = 7; bottom = 7; floor = pos 20; ceiling = pos 4095 }

-- what a list does to a level of −100 grains at a pixel
abbrev pub made : List ℕ → ℕ → ℕ → ℤ
made b x y = limited (zones_at b x y) (neg_ℤ (pos 100))

pub record Examples : Type 0 where
  pub bytes : zones_of (lamp_bytes ++ subtitle_bytes) ≡ lamp ∷ subtitle ∷ []
  pub no_bytes : zones_of [] ≡ []
  -- the lamp's corners, and beside them
  pub held : map (λ (x : ℕ). holds lamp x 1) (3 ∷ 4 ∷ 8 ∷ 9 ∷ []) ≡ false ∷ true ∷ true ∷ false ∷ []
  pub held_down : map (holds lamp 8) (0 ∷ 1 ∷ 6 ∷ 7 ∷ []) ≡ false ∷ true ∷ true ∷ false ∷ []
  -- both hold (4, 6), the lamp alone (8, 6), the subtitle alone (3, 6), neither (9, 6): the later limit is the one that is kept
  pub lamp_first : map (λ (x : ℕ). made (lamp_bytes ++ subtitle_bytes) x 6) (3 ∷ 4 ∷ 8 ∷ 9 ∷ []) ≡ pos 1280 ∷ pos 1280 ∷ neg_ℤ (pos 640) ∷ neg_ℤ (pos 100) ∷ []
  pub lamp_last : map (λ (x : ℕ). made (subtitle_bytes ++ lamp_bytes) x 6) (3 ∷ 4 ∷ 8 ∷ 9 ∷ []) ≡ pos 1280 ∷ neg_ℤ (pos 640) ∷ neg_ℤ (pos 640) ∷ neg_ℤ (pos 100) ∷ []
  -- a later zone with wider limits leaves what an earlier one has made
  pub screen_last : made (subtitle_bytes ++ screen_bytes) 3 6 ≡ pos 1280
  -- taken: no zone, one, 16; refused: 11 bytes, 13, and 17 zones
  pub lengths : map zones_refusal ([] ∷ lamp_bytes ∷ replicate 192 0 ∷ drop 1 lamp_bytes ∷ (0 ∷ lamp_bytes) ∷ replicate 204 0 ∷ []) ≡ 0 ∷ 0 ∷ 0 ∷ 18 ∷ 18 ∷ 18 ∷ []
  -- left above right, top above bottom, floor above ceiling, a floor of −4,096, a ceiling of 4,096
  pub wrong : map zones_refusal (set lamp_bytes 0 9 ∷ set lamp_bytes 2 7 ∷ set lamp_bytes 9 0 ∷ set lamp_bytes 8 0 ∷ set (set lamp_bytes 10 0) 11 0x10 ∷ [])
      ≡ 19 ∷ 19 ∷ 19 ∷ 19 ∷ 19 ∷ []
