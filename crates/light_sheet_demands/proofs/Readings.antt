-- What a reading's answer has: values only where it is not refused, as many as the kind says. Assumes nothing.
use Prim.Native.Nat.{ℕ, zero, suc, ◌≤◌}
use mathlib.Core.Path.{◌≡◌, refl, sym, ◌∙◌, ap}
use mathlib.Core.List.{List, []}
use native.Mathlib.Nat.{le_refl}
use native.Mathlib.Decide.{ℕ_discrete}
use native.Mathlib.Omega.{arith}
use lib.ListN.{length, length-map}
use Rattle.sheet_calls.specs.Refusals.{reading_refusal}
use Rattle.sheet_calls.proofs.Chains.{HasPixel, reading_held}
use Rattle.surface_answers.specs.Answers.{outcome, answered, refused}
use Rattle.surface_answers.specs.declared.Answer.{Answer}
use Rattle.surface_answers.specs.declared.Answer.TheVariants.{Refused}
use Rattle.surface_answers.proofs.Told.{answer_laws}
use Rattle.surface_of_sheet.specs.Read.{numbers, read}
use Rattle.surface_of_sheet.proofs.Answered.{taken_is, refused_is}
use Rattle.light_sheet_c.specs.Values.{bits, over}
use Rattle.light_sheet_demands.specs.CallRecords.{Read}
use Rattle.light_sheet_demands.proofs.Values.{outcome_is}

-- as many values as the kind says: one, two or three
value_count : (s : List ℕ) (x y kind : ℕ) → reading_refusal s x y kind ≡ 0 → kind ≤ 2 → length (read s x y kind).values ≡ suc kind
unfolding answered numbers
value_count s x y zero e l = rw (taken_is s x y 0 e) refl
value_count s x y (suc zero) e l = rw (taken_is s x y 1 e) refl
value_count s x y (suc (suc zero)) e l = rw (taken_is s x y 2 e) refl
value_count s x y (suc (suc (suc kind))) e l = absurd (omega (arith, l))

module _ {s t : List ℕ} {x y kind : ℕ} {r : Answer} (c : Read s x y kind r t) where
  refusal_is : ¬ ((outcome r).number ≡ 0) → outcome r ≡ refused (reading_refusal s x y kind)
  refusal_is h = outcome_is c ∙ refused_is s x y kind (λ e. h (c.answer ∙ e))

  pub refused_reading_lem : {n : ℕ} → (outcome r).number ≡ n → ¬ (n ≡ 0) → r ≡ Refused n
  unfolding refused
  refused_reading_lem {n} e h = (answer_laws.refused r n).0 (refusal_is (λ z. h (sym e ∙ z)) ∙ rw (sym c.answer ∙ e) refl)

  pub no_values_lem : ¬ ((outcome r).number ≡ 0) → (outcome r).values ≡ []
  unfolding refused
  no_values_lem h = ap (λ o. o.values) (refusal_is h)

  pub none_stored : {array : List ℕ} → ¬ ((outcome r).number ≡ 0) → over (bits (outcome r).values) array ≡ array
  unfolding over
  none_stored h = rw (no_values_lem h) refl

  -- where it is not refused
  module _ (z : (outcome r).number ≡ 0) where
    pub taken : reading_refusal s x y kind ≡ 0
    taken = sym c.answer ∙ z

    pub pixel_held : HasPixel s x y kind
    pixel_held = reading_held s x y kind taken

    -- the words that are stored
    pub all_words : length (bits (outcome r).values) ≡ suc kind
    all_words = length-map (outcome r).values _ ∙ ap length c.values ∙ value_count s x y kind taken pixel_held.kind

  pub few_words : length (bits (outcome r).values) ≤ suc kind
  few_words = elim (ℕ_discrete (outcome r).number 0) [
    | yes z ↦ rw (all_words z) (le_refl _)
    | no h ↦ rw (no_values_lem h) (omega arith)
  ]
