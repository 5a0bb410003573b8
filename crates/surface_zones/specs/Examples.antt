-- The lamp's zone and the subtitle's on a sheet of four cells, computed on the definitions; and calls that are refused. Assumes nothing.
use Rattle.std.specs.Prelude.{ℕ, ◌≡◌, List, [], ◌∷◌, ◌++◌, map, ℤ, set, drop}
use Rattle.element_sibson.specs.Element.{+◌, −◌}
use Rattle.sheet_layout.specs.UnevenMesh.{uneven_mesh}
use Rattle.surface_of_sheet.specs.Examples.{sevens}
use Rattle.sheet_zones.specs.Examples.{lamp_bytes, subtitle_bytes}
use Rattle.surface_zones.specs.Zoned.{ZonedAnswer, zoned_answer, zoned_refusal, zoned_run_refusal, zoned_filled}

abbrev pub leaves : ℤ → ZonedAnswer
leaves z = record { number = 0; levels = z ∷ [] }

-- a wrong sheet, a wrong list's length, a wrong zone
abbrev pub version2 : List ℕ
version2 = set uneven_mesh 3 2

abbrev pub cut : List ℕ
cut = drop 1 lamp_bytes

abbrev pub upside_down : List ℕ
upside_down = set lamp_bytes 2 7

pub record Examples : Type 0 where
  -- the whole row at y = 6, plain, under the lamp, under the subtitle, under both in either order
  pub plain : zoned_filled uneven_mesh [] 3 6 (sevens 13)
      ≡ − 512 ∷ − 438 ∷ − 283 ∷ − 131 ∷ − 64 ∷ − 46 ∷ + 6 ∷ + 82 ∷ + 169 ∷ + 255 ∷ + 327 ∷ + 374 ∷ + 384 ∷ []
  pub lamp : zoned_filled uneven_mesh lamp_bytes 3 6 (sevens 13)
      ≡ − 512 ∷ − 640 ∷ − 640 ∷ − 640 ∷ − 640 ∷ − 640 ∷ + 6 ∷ + 82 ∷ + 169 ∷ + 255 ∷ + 327 ∷ + 374 ∷ + 384 ∷ []
  pub subtitle : zoned_filled uneven_mesh subtitle_bytes 3 6 (sevens 13)
      ≡ + 1280 ∷ + 1280 ∷ + 1280 ∷ + 1280 ∷ + 1280 ∷ − 46 ∷ + 6 ∷ + 82 ∷ + 169 ∷ + 255 ∷ + 327 ∷ + 374 ∷ + 384 ∷ []
  pub lamp_first : zoned_filled uneven_mesh (lamp_bytes ++ subtitle_bytes) 3 6 (sevens 13)
      ≡ + 1280 ∷ + 1280 ∷ + 1280 ∷ + 1280 ∷ + 1280 ∷ − 640 ∷ + 6 ∷ + 82 ∷ + 169 ∷ + 255 ∷ + 327 ∷ + 374 ∷ + 384 ∷ []
  pub lamp_last : zoned_filled uneven_mesh (subtitle_bytes ++ lamp_bytes) 3 6 (sevens 13)
      ≡ + 1280 ∷ − 640 ∷ − 640 ∷ − 640 ∷ − 640 ∷ − 640 ∷ + 6 ∷ + 82 ∷ + 169 ∷ + 255 ∷ + 327 ∷ + 374 ∷ + 384 ∷ []
  -- from inside both zones
  pub inside : zoned_filled uneven_mesh (lamp_bytes ++ subtitle_bytes) 6 6 (sevens 4) ≡ + 1280 ∷ + 1280 ∷ − 640 ∷ + 6 ∷ []
  -- at a pixel
  pub levels : map (λ (x : ℕ). zoned_answer uneven_mesh (lamp_bytes ++ subtitle_bytes) x 6) (7 ∷ 8 ∷ 9 ∷ []) ≡ leaves (+ 1280) ∷ leaves (− 640) ∷ leaves (+ 6) ∷ []
  -- what is looked at first: the sheet, then the pixel, then an empty run, then the list's length, then its zones
  pub order : zoned_run_refusal version2 cut 2 6 0 ∷ zoned_run_refusal uneven_mesh cut 2 6 0 ∷ zoned_run_refusal uneven_mesh cut 3 6 0 ∷
      zoned_run_refusal uneven_mesh (cut ++ upside_down) 3 6 13 ∷ zoned_run_refusal uneven_mesh upside_down 3 6 13 ∷ [] ≡ 2 ∷ 7 ∷ 8 ∷ 18 ∷ 19 ∷ []
  pub order_at : zoned_refusal version2 cut 2 6 ∷ zoned_refusal uneven_mesh cut 2 6 ∷ zoned_refusal uneven_mesh (cut ++ upside_down) 3 6 ∷
      zoned_refusal uneven_mesh upside_down 3 6 ∷ [] ≡ 2 ∷ 7 ∷ 18 ∷ 19 ∷ []
  -- a refused row is as it was
  pub kept : zoned_filled uneven_mesh upside_down 3 6 (sevens 13) ≡ sevens 13
