-- Which answer a reading returns, by its refusal and its kind. Assumes nothing.
use Prim.Native.Nat.{ℕ}
use mathlib.Core.Path.{◌≡◌, refl, ◌∙◌}
use mathlib.Core.List.{List}
use borrow.Author.Tests.{eq-eqb, ne_eqb}
use Rattle.element_sibson.specs.Fraction.{positive}
use Rattle.sheet_calls.specs.Refusals.{reading_refusal}
use Rattle.sheet_calls.proofs.Chains.{HasPixel, reading_taken}
use Rattle.surface_answers.specs.Answers.{outcome, quotient, answered, refused}
use Rattle.surface_answers.specs.declared.Answer.TheVariants.{Level, Tilt, Bend, Refused}
use Rattle.surface_answers.proofs.Told.{answer_laws}
use Rattle.surface_of_sheet.specs.Surface.{level, tilt_x, tilt_y, bend_xx, bend_xy, bend_yy}
use Rattle.surface_of_sheet.specs.Read.{numbers, read}
use Rattle.surface_of_sheet.specs.Theorems.{ReadLaws}

module _ (s : List ℕ) (x y kind : ℕ) where
  pub taken_is : reading_refusal s x y kind ≡ 0 → read s x y kind ≡ answered kind (numbers s x y kind)
  unfolding read
  taken_is e = rw (eq-eqb _ 0 e) refl

  pub refused_is : ¬ (reading_refusal s x y kind ≡ 0) → read s x y kind ≡ refused (reading_refusal s x y kind)
  unfolding read
  refused_is h = rw (ne_eqb _ 0 h) refl

-- at a pixel of the mesh it is not refused
pub read_is : {s : List ℕ} {x y kind : ℕ} → HasPixel s x y kind → read s x y kind ≡ answered kind (numbers s x y kind)
read_is h = taken_is _ _ _ _ (reading_taken h)

pub read_laws : ReadLaws
unfolding outcome answered refused numbers
read_laws = record {
  refused = λ s x y kind h r e. answer_laws.told r (Refused (reading_refusal s x y kind)) (e ∙ refused_is s x y kind h);
  level = λ s x y h r e. answer_laws.told r (Level (quotient (positive 64 tt) (level s x y))) (e ∙ taken_is s x y 0 h);
  tilt = λ s x y h r e. answer_laws.told r (Tilt (quotient (positive 64 tt) (tilt_x s x y)) (quotient (positive 64 tt) (tilt_y s x y))) (e ∙ taken_is s x y 1 h);
  bend = λ s x y h r e. answer_laws.told r (Bend (quotient (positive 4096 tt) (bend_xx s x y)) (quotient (positive 4096 tt) (bend_xy s x y)) (quotient (positive 4096 tt) (bend_yy s x y))) (e ∙ taken_is s x y 2 h);
}
