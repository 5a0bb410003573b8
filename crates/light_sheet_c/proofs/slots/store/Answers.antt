-- `light_sheet_c::slots::store` meets its contract. Assumes nothing.
use Rattle.std.proofs.Common.{◌≡◌, refl, subst, [], ◌∷◌}
use Rattle.surface_answers.specs.Answers.{outcome, Every}
use Rattle.surface_answers.specs.declared.Answer.{Answer}
use Rattle.light_sheet_c.specs.Values.{IsNumber, over}
use Rattle.light_sheet_c.proofs.Stored.{stored}
use Rattle.light_sheet_c.proofs.slots.store.Goals as goal

-- what the contract asks of the answer, of the case that it is
of_case : {a b : Answer} → a ≡ b → Every IsNumber (outcome a).values → Every IsNumber (outcome b).values
of_case e h = subst (λ a. Every IsNumber (outcome a).values) e h

pub float_to_bits-values : goal.float_to_bits-values
unfolding outcome
float_to_bits-values c = (of_case c.in-Level.is c.requires).0

pub float_to_bits-values-in-Tilt : goal.float_to_bits-values-in-Tilt
unfolding outcome
float_to_bits-values-in-Tilt c = (of_case c.in-Tilt.is c.requires).0

pub float_to_bits-values-in-Tilt-2 : goal.float_to_bits-values-in-Tilt-2
unfolding outcome
float_to_bits-values-in-Tilt-2 c = (of_case c.in-Tilt.is c.requires).1.0

pub float_to_bits-values-in-Bend : goal.float_to_bits-values-in-Bend
unfolding outcome
float_to_bits-values-in-Bend c = (of_case c.in-Bend.is c.requires).0

pub float_to_bits-values-in-Bend-2 : goal.float_to_bits-values-in-Bend-2
unfolding outcome
float_to_bits-values-in-Bend-2 c = (of_case c.in-Bend.is c.requires).1.0

pub float_to_bits-values-in-Bend-3 : goal.float_to_bits-values-in-Bend-3
unfolding outcome
float_to_bits-values-in-Bend-3 c = (of_case c.in-Bend.is c.requires).1.1.0

pub returns-in-Level : goal.returns-in-Level
unfolding outcome
returns-in-Level c = rw c.in-Level.is (record { answer = refl; values = stored (_ ∷ []) _ })

pub returns-in-Tilt : goal.returns-in-Tilt
unfolding outcome
returns-in-Tilt c = rw c.in-Tilt.is (record { answer = refl; values = stored (_ ∷ _ ∷ []) _ })

pub returns-in-Bend : goal.returns-in-Bend
unfolding outcome
returns-in-Bend c = rw c.in-Bend.is (record { answer = refl; values = stored (_ ∷ _ ∷ _ ∷ []) _ })

pub returns-in-Refused : goal.returns-in-Refused
unfolding outcome over
returns-in-Refused c = rw c.in-Refused.is (record { answer = refl; values = refl })
