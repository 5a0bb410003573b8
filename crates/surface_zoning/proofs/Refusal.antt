-- What refuses zoned calls: what refuses their pixel or their run, and then what refuses their list of zones. Assumes nothing.
use Rattle.std.proofs.Common.{◌≡◌, ℕ, List, [], ◌∷◌, ℤ, length, Ok, Err, refl, sym, ◌∙◌, ap}
use Rattle.sheet_calls.specs.Refusals.{run_refusal}
use Rattle.sheet_calls.specs.declared.refusal.Refusal.{Refusal}
use Rattle.sheet_calls.specs.Refused.{number}
use Rattle.sheet_calls.proofs.Refused.{number-not_zero, refused_first}
use Rattle.sheet_calls.proofs.Rules.{or_else, passed_by}
use Rattle.sheet_zones.specs.Zones.{zones_refusal}
use Rattle.surface_places.specs.Spots.{spot_refusal}
use Rattle.surface_places.proofs.Spots.{behind_spot}
use Rattle.surface_zones.specs.Zoned.{zoned_level, zoned_along, zoned_refusal, zoned_outcome, zoned_answer, zoned_run_refusal, zoned_filled}
use Rattle.surface_zones.proofs.Chain.{zoned_is, zoned_run_is}
use Rattle.surface_zones.proofs.Answer.{level_answer, refused_answer}
use Rattle.surface_zones.proofs.Filled.{filled_is, unfilled_is}

-- ---- a level at a pixel

module _ (s b : List ℕ) (x y : ℕ) where
  by_spot : zoned_refusal s b x y ≡ or_else (spot_refusal s x y) (zones_refusal b)
  by_spot = zoned_is s b x y ∙ behind_spot s x y (zones_refusal b)

  refused : (e : Refusal) → number e ≡ zoned_refusal s b x y → zoned_outcome (Err e) ≡ zoned_answer s b x y
  unfolding zoned_outcome
  refused e h = sym (refused_answer s b x y h (number-not_zero e))

  pub spot_refused : (e : Refusal) → number e ≡ spot_refusal s x y → zoned_outcome (Err e) ≡ zoned_answer s b x y
  spot_refused e h = refused e (refused_first _ _ by_spot e h)

  module _ (spot : 0 ≡ spot_refusal s x y) where
    behind : zones_refusal b ≡ zoned_refusal s b x y
    behind = passed_by _ _ by_spot spot refl

    pub zones_refused : (e : Refusal) → number e ≡ zones_refusal b → zoned_outcome (Err e) ≡ zoned_answer s b x y
    zones_refused e h = refused e (h ∙ behind)

    pub taken : 0 ≡ zones_refusal b → {z : ℤ} → z ≡ zoned_level s b x y → zoned_outcome (Ok z) ≡ zoned_answer s b x y
    unfolding zoned_outcome
    taken zones e = ap (λ (z : ℤ). record { number = 0; levels = z ∷ [] }) e ∙ sym (level_answer s b x y (sym (zones ∙ behind)))

-- ---- a run that fills a row

module _ (s b : List ℕ) (x y : ℕ) (row : List ℤ) where
  -- the row stays as it was
  pub left_as_it_was : (e : Refusal) → number e ≡ zoned_run_refusal s b x y (length row) → row ≡ zoned_filled s b x y row
  left_as_it_was e h = sym (unfilled_is s b x y row (λ z. number-not_zero e (h ∙ z)))

  pub run_refused : (e : Refusal) → number e ≡ run_refusal s x y (length row) → number e ≡ zoned_run_refusal s b x y (length row)
  run_refused e h = refused_first _ _ (zoned_run_is s b x y (length row)) e h

  module _ (run : 0 ≡ run_refusal s x y (length row)) where
    pub behind_run : zones_refusal b ≡ zoned_run_refusal s b x y (length row)
    behind_run = passed_by _ _ (zoned_run_is s b x y (length row)) run refl

    pub filled_row : 0 ≡ zones_refusal b → {new : List ℤ} → new ≡ zoned_along s b x y (length row) → new ≡ zoned_filled s b x y row
    filled_row zones e = e ∙ sym (filled_is s b x y row (sym (zones ∙ behind_run)))
