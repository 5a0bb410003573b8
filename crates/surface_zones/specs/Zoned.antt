-- Zoned levels and zoned runs (02, #106): when the calls are refused, what they answer and what they leave. Assumes nothing.
use Rattle.std.specs.Prelude.{ℕ, zero, suc, List, [], ◌∷◌, ◌++◌, cond, eqb, ℤ, length, Result, Ok, Err}
use Rattle.sheet_calls.specs.Rules.{Rule, rule, first_refusal}
use Rattle.sheet_calls.specs.Refusals.{outside, off_mesh, empty_run, sheet_rules}
use Rattle.sheet_zones.specs.Zones.{zones_at, limited, zone_rules}
use Rattle.surface_of_sheet.specs.Surface.{level}
use Rattle.sheet_calls.specs.declared.refusal.Refusal.{Refusal}
use Rattle.sheet_calls.specs.Refused.{number}

-- ---- zoned levels, of the sheet s and the list of zones b, in grains

-- "The zoned level starts as the level", and the zones that hold the pixel do their part
unfoldable pub zoned_level : List ℕ → List ℕ → ℕ → ℕ → ℤ
zoned_level s b x y = limited (zones_at b x y) (level s x y)

-- those of count pixels, from (x, y) to the right
unfoldable pub zoned_along : List ℕ → List ℕ → ℕ → ℕ → ℕ → List ℤ
zoned_along s b x y zero = []
zoned_along s b x y (suc count) = zoned_level s b x y ∷ zoned_along s b (suc x) y count

-- ---- a zoned level: what the call is given, its rules in the order of looking, and the number that refuses it, or 0

pub record ZonedInput : Type 0 where
  pub sheet : List ℕ
  pub zones : List ℕ
  pub x : ℕ
  pub y : ℕ

unfoldable pub zoned_rules : List (Rule ZonedInput)
zoned_rules = sheet_rules (λ u. u.sheet) ++ rule 7 (λ u. outside u.sheet u.x u.y) ∷ zone_rules (λ u. u.zones)

unfoldable pub zoned_refusal : List ℕ → List ℕ → ℕ → ℕ → ℕ
zoned_refusal s b x y = first_refusal zoned_rules (record { sheet = s; zones = b; x = x; y = y })

-- the refusal's number, or 0, and the zoned level; refused, none
pub record ZonedAnswer : Type 0 where
  pub number : ℕ
  pub levels : List ℤ

unfoldable pub zoned_outcome : Result ℤ Refusal → ZonedAnswer
zoned_outcome (Ok z) = record { number = 0; levels = z ∷ [] }
zoned_outcome (Err e) = record { number = number e; levels = [] }

-- the call's
unfoldable pub zoned_answer : List ℕ → List ℕ → ℕ → ℕ → ZonedAnswer
zoned_answer s b x y = let n = zoned_refusal s b x y in
    cond (eqb n 0) (record { number = 0; levels = zoned_level s b x y ∷ [] }) (record { number = n; levels = [] })

-- ---- a zoned run of count pixels, likewise

pub record ZonedRunInput : Type 0 where
  pub sheet : List ℕ
  pub zones : List ℕ
  pub x : ℕ
  pub y : ℕ
  pub count : ℕ

unfoldable pub zoned_run_rules : List (Rule ZonedRunInput)
zoned_run_rules =
    sheet_rules (λ u. u.sheet) ++ rule 7 (λ u. off_mesh u.sheet u.x u.y u.count) ∷ rule 8 (λ u. empty_run u.count) ∷ zone_rules (λ u. u.zones)

unfoldable pub zoned_run_refusal : List ℕ → List ℕ → ℕ → ℕ → ℕ → ℕ
zoned_run_refusal s b x y count = first_refusal zoned_run_rules (record { sheet = s; zones = b; x = x; y = y; count = count })

-- the lent row, a slot for each pixel of the run: refused, as it was; else the zoned levels
unfoldable pub zoned_filled : List ℕ → List ℕ → ℕ → ℕ → List ℤ → List ℤ
zoned_filled s b x y row = cond (eqb (zoned_run_refusal s b x y (length row)) 0) (zoned_along s b x y (length row)) row
