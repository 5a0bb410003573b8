-- The number and the values tell answers apart: the answer is read back from them. Assumes nothing.
use Prim.Native.Nat.{ℕ}
use mathlib.Core.Path.{◌≡◌, refl, sym, ◌∙◌, ap}
use mathlib.Core.Logic.{◌↔◌}
use mathlib.Core.List.{List, [], ◌∷◌}
use lib.Ieee.{Float}
use Rattle.surface_answers.specs.Answers.{outcome}
use Rattle.surface_answers.specs.AnswerLaws.{AnswerLaws}
use Rattle.surface_answers.specs.declared.Answer.{Answer}
use Rattle.surface_answers.specs.declared.Answer.TheVariants.{Level, Tilt, Bend, Refused}

unfoldable answer_of : ℕ → List Float → Answer
answer_of n [] = Refused n
answer_of n (v ∷ []) = Level v
answer_of n (x ∷ y ∷ []) = Tilt x y
answer_of n (xx ∷ xy ∷ yy ∷ rest) = Bend xx xy yy

read_back : (r : Answer) → answer_of (outcome r).number (outcome r).values ≡ r
unfolding answer_of outcome
read_back (Level v) = refl
read_back (Tilt x y) = refl
read_back (Bend xx xy yy) = refl
read_back (Refused n) = refl

told : (r r' : Answer) → outcome r ≡ outcome r' → r ≡ r'
told r r' e = sym (read_back r) ∙ ap (λ o. answer_of o.number o.values) e ∙ read_back r'

-- an answer is another exactly when its number and values are
the_same : (r r' : Answer) → (outcome r ≡ outcome r') ↔ (r ≡ r')
the_same r r' = (told r r', ap outcome)

pub answer_laws : AnswerLaws
unfolding outcome
answer_laws = record {
  told = told;
  level = λ r v. the_same r (Level v);
  tilt = λ r x y. the_same r (Tilt x y);
  bend = λ r xx xy yy. the_same r (Bend xx xy yy);
  refused = λ r n. the_same r (Refused n);
}
