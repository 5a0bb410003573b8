-- When zoned calls are refused: a level as its sheet is, then by 7, a run as a plain run is; then both as their list of zones is. Assumes nothing.
use Prim.Native.Nat.{ℕ}
use mathlib.Core.Path.{◌≡◌, refl, sym, ◌∙◌}
use mathlib.Core.Logic.{◌↔◌}
use mathlib.Core.List.{List, [], ◌∷◌, ◌++◌, map}
use mathlib.Core.Bool.{Bool, cond}
use Rattle.sheet_calls.specs.Rules.{Rule, rule, first_refusal}
use Rattle.sheet_calls.specs.Refusals.{outside, off_mesh, empty_run, Accepted, sheet_rules, sheet_refusal, run_rules, run_refusal}
use Rattle.sheet_calls.specs.WellFormed.{Inside, OnMesh}
use Rattle.sheet_calls.proofs.Rules.{or_else, nonzero, numbered, first_append, zero_or, or_zero, passed_by}
use Rattle.sheet_calls.proofs.Conditions.{condition_laws}
use Rattle.sheet_calls.proofs.Chains.{sheet_append, cond_zero, behind_sheet, sheet_taken, run_held}
use Rattle.sheet_zones.specs.Zones.{zone_rules, zones_refusal}
use Rattle.surface_zones.specs.Zoned.{zoned_rules, zoned_refusal, ZonedRunInput, zoned_run_rules, zoned_run_refusal}

-- ---- the numbers

pub numbers : map (λ r. r.number) zoned_rules ≡ 1 ∷ 2 ∷ 3 ∷ 4 ∷ 5 ∷ 6 ∷ 7 ∷ 18 ∷ 19 ∷ []
unfolding zoned_rules sheet_rules zone_rules
numbers = refl

pub run_numbers_lem : map (λ r. r.number) zoned_run_rules ≡ 1 ∷ 2 ∷ 3 ∷ 4 ∷ 5 ∷ 6 ∷ 7 ∷ 8 ∷ 18 ∷ 19 ∷ []
unfolding zoned_run_rules sheet_rules zone_rules
run_numbers_lem = refl

-- ---- a level

module _ (s b : List ℕ) (x y : ℕ) where
  pub zoned_is : zoned_refusal s b x y ≡ or_else (sheet_refusal s) (cond (outside s x y) 7 (zones_refusal b))
  unfolding zoned_refusal zoned_rules zone_rules zones_refusal first_refusal
  zoned_is = sheet_append _ _ _

  -- from the answers that code has: the sheet is accepted, then the pixel's test, then the list's number
  pub zoned_answer_lem : sheet_refusal s ≡ 0 → {p : Bool} {n : ℕ} → p ≡ outside s x y → n ≡ zones_refusal b → cond p 7 n ≡ zoned_refusal s b x y
  zoned_answer_lem z e f = rw (e, f) (passed_by _ _ zoned_is refl z)

  pub taken : (zoned_refusal s b x y ≡ 0) ↔ (Accepted s × Inside s x y × (zones_refusal b ≡ 0))
  taken = (
    λ e. let h = behind_sheet (sym zoned_is ∙ e) in let p = cond_zero (outside s x y) 6 _ h.1 in (h.0, (condition_laws.seven s x y).0 p.0, p.1),
    λ (a, i, z). zoned_is ∙ sheet_taken a ∙ rw ((condition_laws.seven s x y).1 i) z,
  )

-- ---- a run

-- its rules without those of the list: those of a plain run
abbrev plain_rules : List (Rule ZonedRunInput)
plain_rules = sheet_rules (λ u. u.sheet) ++ rule 7 (λ u. off_mesh u.sheet u.x u.y u.count) ∷ rule 8 (λ u. empty_run u.count) ∷ []

module _ (s b : List ℕ) (x y count : ℕ) where
  pub zoned_run_is : zoned_run_refusal s b x y count ≡ or_else (run_refusal s x y count) (zones_refusal b)
  unfolding zoned_run_refusal zoned_run_rules run_refusal run_rules sheet_rules zone_rules zones_refusal first_refusal nonzero
  zoned_run_is = first_append plain_rules (zone_rules (λ u. u.zones)) (record { sheet = s; zones = b; x = x; y = y; count = count }) (numbered plain_rules tt)

  pub run_taken_lem : (zoned_run_refusal s b x y count ≡ 0) ↔ ((run_refusal s x y count ≡ 0) × (zones_refusal b ≡ 0))
  run_taken_lem = (λ e. or_zero _ _ (sym zoned_run_is ∙ e), λ (r, z). zoned_run_is ∙ zero_or _ _ r ∙ z)

  -- what a run that is not refused says of its input
  pub zoned_run_held : zoned_run_refusal s b x y count ≡ 0 → OnMesh s x y count × (zones_refusal b ≡ 0)
  zoned_run_held e = let (r, z) = run_taken_lem.0 e in (run_held s x y count r, z)
