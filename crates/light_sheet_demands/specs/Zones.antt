-- 02's request #106, "Zones on the screen", sentence by sentence, of whatever `zoned_level` and `fill_zoned_run` may give and leave, and the calls for C. In
-- which order their refusals are looked at, and that sheet and zones come back as they were, demand 1 says. Assumes nothing.
use Rattle.std.specs.Prelude.{ℕ, ◌+◌, ◌*◌, ◌≤◌, ◌<◌, ◌≡◌, ◌↔◌, ◌⊎◌, List, [], ◌∷◌, ℤ, pos, length, get_or, Result, Ok, Err}
use Rattle.integers.specs.Within.{◌within◌}
use Rattle.sheet_zones.specs.Zones.{zone_at, zones_of, holding, limited}
use Rattle.sheet_zones.specs.ZoneLaws.{Holds, OfZones, EachValid, Between, ListLaws, LimitLaws}
use Rattle.surface_answers.specs.Answers.{outcome}
use Rattle.surface_answers.specs.declared.Answer.{Answer}
use Rattle.surface_zones.specs.Zoned.{zoned_outcome}
use Rattle.sheet_calls.specs.declared.refusal.Refusal.{Refusal}
use Rattle.sheet_calls.specs.Refused as refused
use Rattle.light_sheet_demands.specs.CallRecords.{Read, FillRun, ZonedLevel, FillZonedRun, ZonedLevelInto}
use Rattle.light_sheet_demands.specs.Demands.{GivesLevel}

-- ---- the words

-- zone k of the list b, counted from 0, holds pixel (x, y)
pub record HeldBy (b : List ℕ) (k x y : ℕ) : Type 0 where
  pub listed : 12 * k + 12 ≤ length b
  pub holds : Holds (zone_at b k) x y

-- the answer is a level, in whole grains
pub record IsLevel (r : Result ℤ Refusal) : Type 0 where
  pub grains : ℤ
  pub is : r ≡ Ok grains

-- ---- a pixel

-- what is shown of the zoned level v at the pixel (x, y) under the zones b, where the level is z
pub record ZonedPixel (b : List ℕ) (x y : ℕ) (z v : ℤ) : Type 0 where
  -- "The zoned level starts as the level. Each zone holding the pixel, in list order, raises it to the floor if below, then lowers it to the ceiling if above."
  pub made : v ≡ limited (holding x y (zones_of b)) z
  -- with no zone that holds the pixel it is the level
  pub none : ((k : ℕ) → ¬ HeldBy b k x y) → v ≡ z
  -- with one it lies from the floor to the ceiling
  pub one : (k : ℕ) → HeldBy b k x y → ((j : ℕ) → HeldBy b j x y → j ≡ k) → Between (zone_at b k) v
  -- the last zone that holds the pixel has its limits kept
  pub last : (k : ℕ) → HeldBy b k x y → ((j : ℕ) → HeldBy b j x y → j ≤ k) → Between (zone_at b k) v
  -- it lies within ±262,080, or is the level
  pub range : (v within 262080) ⊎ (v ≡ z)

-- ---- the calls

pub record ScreenZones : Type 0 where
  -- "A lent list holds up to 16 zones of 12 bytes, little-endian: left, top, right, bottom pixel (unsigned 16 bits, inclusive), floor, ceiling (steps, signed
  -- 16 bits)." What a list holds, byte by byte, and which zones of it hold a pixel, in list order; which signed number 16 bits are, demand 1 says
  pub list : ListLaws
  -- what they do to a level, one after the other
  pub limits : LimitLaws
  -- "One call gives the zoned level at a pixel, in whole grains and told apart from a refusal": 0 and a level, or, as demand 1 says, a number and an `Err`.
  -- Which number and levels each case of the answer has
  pub answers : ((z : ℤ) → zoned_outcome (Ok z) ≡ record { number = 0; levels = z ∷ [] })
      × ((e : Refusal) → zoned_outcome (Err e) ≡ record { number = refused.number e; levels = [] })
  pub grains : {s b t b' : List ℕ} {x y : ℕ} {r : Result ℤ Refusal} → ZonedLevel s b x y r t b' → (zoned_outcome r).number ≡ 0 → IsLevel r
  -- z is the level that `read` gives at the pixel
  pub pixel : {s b t u b' : List ℕ} {x y : ℕ} {a : Answer} {z v : ℤ} → Read s x y 0 a u → GivesLevel a z →
      ZonedLevel s b x y (Ok v) t b' → ZonedPixel b x y z v
  -- "runs come in a zoned form too", "a zoned run's numbers are zoned levels." What a zoned run leaves in slot k is what `zoned_level` gives at its pixel, and
  -- is made of what a plain run leaves there
  pub run : {s b t u b' c : List ℕ} {x y k : ℕ} {row row' : List ℤ} {r : Result ℤ Refusal} → FillZonedRun s b x y row 0 row' t b' → k < length row →
      ZonedLevel s b (x + k) y r u c → r ≡ Ok (get_or row' k (pos 0))
  pub slots : {s b t u b' : List ℕ} {x y k n : ℕ} {plain plain' row row' : List ℤ} → FillZonedRun s b x y row 0 row' t b' → k < length row →
      FillRun s x y plain n plain' u → length plain ≡ length row → ZonedPixel b (x + k) y (get_or plain' k (pos 0)) (get_or row' k (pos 0))
  -- an empty list leaves a plain run
  pub no_zones : {s t u b' : List ℕ} {x y m n : ℕ} {row row' row'' : List ℤ} → FillZonedRun s [] x y row m row' t b' → FillRun s x y row n row'' u →
      (m ≡ n) × (row' ≡ row'')
  -- "Errors: 18 when the list's length is not a multiple of 12 or exceeds 192, after 7 (and 8); 19 when a zone has left above right, top above bottom, floor
  -- above ceiling, or a limit beyond ±4,095, after 18." A call is taken where the plain one is and the list is valid
  pub eighteen : {s b t u b' : List ℕ} {x y : ℕ} {a : Answer} {r : Result ℤ Refusal} → Read s x y 0 a u → ZonedLevel s b x y r t b' →
      ((zoned_outcome r).number ≡ 18) ↔ (((outcome a).number ≡ 0) × ¬ OfZones b)
  pub nineteen : {s b t u b' : List ℕ} {x y : ℕ} {a : Answer} {r : Result ℤ Refusal} → Read s x y 0 a u → ZonedLevel s b x y r t b' →
      ((zoned_outcome r).number ≡ 19) ↔ (((outcome a).number ≡ 0) × OfZones b × ¬ EachValid b)
  pub taken : {s b t u b' : List ℕ} {x y : ℕ} {a : Answer} {r : Result ℤ Refusal} → Read s x y 0 a u → ZonedLevel s b x y r t b' →
      ((zoned_outcome r).number ≡ 0) ↔ (((outcome a).number ≡ 0) × OfZones b × EachValid b)
  pub eighteen_of_run : {s b t u b' : List ℕ} {x y m n : ℕ} {plain plain' row row' : List ℤ} → FillRun s x y plain n plain' u → length plain ≡ length row →
      FillZonedRun s b x y row m row' t b' → (m ≡ 18) ↔ ((n ≡ 0) × ¬ OfZones b)
  pub nineteen_of_run : {s b t u b' : List ℕ} {x y m n : ℕ} {plain plain' row row' : List ℤ} → FillRun s x y plain n plain' u → length plain ≡ length row →
      FillZonedRun s b x y row m row' t b' → (m ≡ 19) ↔ ((n ≡ 0) × OfZones b × ¬ EachValid b)
  pub taken_of_run : {s b t u b' : List ℕ} {x y m n : ℕ} {plain plain' row row' : List ℤ} → FillRun s x y plain n plain' u → length plain ≡ length row →
      FillZonedRun s b x y row m row' t b' → (m ≡ 0) ↔ ((n ≡ 0) × OfZones b × EachValid b)
  -- the call for C hands out the same level
  pub for_c : {s b t b' : List ℕ} {x y : ℕ} {held held' : ℤ} → ZonedLevelInto s b x y held 0 held' t b' → ZonedLevel s b x y (Ok held') t b'
  -- "Plain levels, tilts and bends don't look at zones, and demands 2 and 3 speak of these": `read`, `bends` and `fill_run` are lent no list, and what demands 2
  -- and 3 say of them is as it was
