-- What a zoned run leaves: the row as it was where it is refused, else in each slot the zoned level of its pixel; with no zone, what a plain run leaves.
-- Assumes nothing.
use Prim.Native.Nat.{ℕ, zero, suc, ◌+◌, ◌<◌}
use mathlib.Core.Path.{◌≡◌, refl, sym, ◌∙◌, ap}
use mathlib.Core.List.{List, [], ◌∷◌}
use mathlib.Core.Bool.{cond}
use native.Mathlib.Decide.{ℕ_discrete}
use borrow.Author.Tests.{eq-eqb, ne_eqb}
use lib.Dec.{eqb}
use lib.IntN.{ℤ}
use lib.ListN.{length, get_or}
use Rattle.sheet_layout.specs.Some.{some}
use Rattle.sheet_calls.specs.Rules.{first_refusal}
use Rattle.sheet_calls.specs.Refusals.{run_refusal}
use Rattle.sheet_calls.proofs.Rules.{or_else, zero_or}
use Rattle.sheet_zones.specs.Zones.{zones_from, zones_of, holding, limited, other_zones_length, wrong_zones, zone_rules, zones_refusal}
use Rattle.surface_of_sheet.specs.Surface.{level}
use Rattle.surface_of_sheet.specs.Run.{levels_along, filled}
use Rattle.surface_zones.specs.Zoned.{zoned_level, zoned_along, zoned_run_refusal, zoned_filled}
use Rattle.surface_zones.proofs.Chain.{zoned_run_is}
use Rattle.surface_zones.proofs.Along.{along_length, along_at}

module _ (s b : List ℕ) (x y : ℕ) (row : List ℤ) where
  pub filled_is : zoned_run_refusal s b x y (length row) ≡ 0 → zoned_filled s b x y row ≡ zoned_along s b x y (length row)
  unfolding zoned_filled
  filled_is e = rw (eq-eqb _ 0 e) refl

  pub unfilled_is : ¬ (zoned_run_refusal s b x y (length row) ≡ 0) → zoned_filled s b x y row ≡ row
  unfolding zoned_filled
  unfilled_is h = rw (ne_eqb _ 0 h) refl

  pub size : length (zoned_filled s b x y row) ≡ length row
  size = elim (ℕ_discrete (zoned_run_refusal s b x y (length row)) 0) [
    | yes e ↦ rw (filled_is e) (along_length s b x y (length row))
    | no h ↦ rw (unfilled_is h) refl
  ]

  pub slots : zoned_run_refusal s b x y (length row) ≡ 0 → (k : ℕ) → k < length row → (z : ℤ) → get_or (zoned_filled s b x y row) k z ≡ zoned_level s b (x + k) y
  slots e k h z = rw (filled_is e) (along_at s b x y (length row) k h z)

-- ---- with no zone

or_none : (n : ℕ) → or_else n 0 ≡ n
or_none n = elim (ℕ_discrete n 0) [ yes e ↦ zero_or n 0 e ∙ sym e | no h ↦ rw (ne_eqb n 0 h) refl ]

module _ (s : List ℕ) where
  pub plain_refusal : (x y count : ℕ) → zoned_run_refusal s [] x y count ≡ run_refusal s x y count
  unfolding zones_refusal zone_rules first_refusal other_zones_length wrong_zones some
  plain_refusal x y count = zoned_run_is s [] x y count ∙ or_none (run_refusal s x y count)

  plain_along : (x y count : ℕ) → zoned_along s [] x y count ≡ levels_along s x y count
  unfolding zoned_along levels_along zoned_level limited holding zones_of zones_from
  plain_along x y zero = refl
  plain_along x y (suc count) = ap (λ (l : List ℤ). level s x y ∷ l) (plain_along (suc x) y count)

  pub plain : (x y : ℕ) (row : List ℤ) → zoned_filled s [] x y row ≡ filled s x y row
  unfolding zoned_filled filled
  plain x y row = λ t. cond (eqb (plain_refusal x y (length row) t) 0) (plain_along x y (length row) t) row
