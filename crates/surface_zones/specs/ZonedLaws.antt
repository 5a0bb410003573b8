-- What is shown of zoned levels and runs: when they are taken, what they answer and leave. What zones do to a level is in `sheet_zones`. Assumes nothing.
use Rattle.std.specs.Prelude.{ℕ, ◌+◌, ◌<◌, ◌≡◌, ◌↔◌, List, [], ◌∷◌, map, ℤ, length, get_or, Result, Ok, Err}
use Rattle.sheet_calls.specs.Refusals.{Accepted, run_refusal}
use Rattle.sheet_calls.specs.WellFormed.{Inside}
use Rattle.sheet_zones.specs.Zones.{zones_refusal}
use Rattle.surface_of_sheet.specs.Run.{filled}
use Rattle.surface_zones.specs.Zoned.{zoned_level, zoned_rules, zoned_refusal, zoned_outcome, zoned_answer, zoned_run_rules, zoned_run_refusal, zoned_filled}
use Rattle.sheet_calls.specs.declared.refusal.Refusal.{Refusal}
use Rattle.sheet_calls.specs.Refused.{number, RefusedWith}

pub record ZonedLaws : Type 0 where
  -- the numbers that each call looks at, in order
  pub numbers : map (λ r. r.number) zoned_rules ≡ 1 ∷ 2 ∷ 3 ∷ 4 ∷ 5 ∷ 6 ∷ 7 ∷ 18 ∷ 19 ∷ []
  pub run_numbers : map (λ r. r.number) zoned_run_rules ≡ 1 ∷ 2 ∷ 3 ∷ 4 ∷ 5 ∷ 6 ∷ 7 ∷ 8 ∷ 18 ∷ 19 ∷ []
  -- which calls are taken: sheet and pixel, or plain run, as without zones, and a list that is not refused
  pub taken : (s b : List ℕ) (x y : ℕ) → (zoned_refusal s b x y ≡ 0) ↔ (Accepted s × Inside s x y × (zones_refusal b ≡ 0))
  pub run_taken : (s b : List ℕ) (x y count : ℕ) → (zoned_run_refusal s b x y count ≡ 0) ↔ ((run_refusal s x y count ≡ 0) × (zones_refusal b ≡ 0))
  -- what a call for a level answers
  pub of_level : (z : ℤ) → zoned_outcome (Ok z) ≡ record { number = 0; levels = z ∷ [] }
  pub of_refused : (e : Refusal) → zoned_outcome (Err e) ≡ record { number = number e; levels = [] }
  pub answers : (s b : List ℕ) (x y : ℕ) → zoned_refusal s b x y ≡ 0 → (r : Result ℤ Refusal) → zoned_outcome r ≡ zoned_answer s b x y → r ≡ Ok (zoned_level s b x y)
  pub refused : (s b : List ℕ) (x y : ℕ) → ¬ (zoned_refusal s b x y ≡ 0) → (r : Result ℤ Refusal) → zoned_outcome r ≡ zoned_answer s b x y → RefusedWith r (zoned_refusal s b x y)
  -- the row keeps its length; refused, it is as it was; else each slot holds the zoned level of its pixel
  pub size : (s b : List ℕ) (x y : ℕ) (row : List ℤ) → length (zoned_filled s b x y row) ≡ length row
  pub untouched : (s b : List ℕ) (x y : ℕ) (row : List ℤ) → ¬ (zoned_run_refusal s b x y (length row) ≡ 0) → zoned_filled s b x y row ≡ row
  pub slots : (s b : List ℕ) (x y : ℕ) (row : List ℤ) → zoned_run_refusal s b x y (length row) ≡ 0 → (k : ℕ) → k < length row →
      (z : ℤ) → get_or (zoned_filled s b x y row) k z ≡ zoned_level s b (x + k) y
  -- an empty list leaves a plain run
  pub plain : (s : List ℕ) (x y : ℕ) (row : List ℤ) → zoned_filled s [] x y row ≡ filled s x y row
