-- The levels that readings give and runs leave, as whole numbers. Assumes nothing.
use Prim.Native.Nat.{ℕ, ◌+◌, ◌<◌}
use mathlib.Core.Path.{◌≡◌, refl, sym, ◌∙◌, ap}
use mathlib.Core.List.{List, [], ◌∷◌}
use native.Mathlib.Decide.{ℕ_discrete}
use native.Mathlib.Omega.{arith}
use borrow.Author.Tests.{eq-eqb}
use lib.Dec.{lit≤}
use lib.Ieee.{Float}
use lib.IntN.{ℤ, pos}
use lib.ListN.{length, get_or}
use Rattle.element_sibson.specs.Fraction.{positive}
use Rattle.sheet_calls.specs.Refusals.{run_refusal, Accepted}
use Rattle.sheet_calls.specs.WellFormed.{Inside}
use Rattle.sheet_calls.proofs.Chains.{reading_taken}
use Rattle.surface_answers.specs.Answers.{outcome, quotient, answered}
use Rattle.surface_answers.specs.declared.Answer.{Answer}
use Rattle.surface_answers.proofs.Quotients.{quotient_laws}
use Rattle.surface_of_sheet.specs.Surface.{level}
use Rattle.surface_of_sheet.specs.Read.{numbers}
use Rattle.surface_of_sheet.specs.Run.{levels_along, filled}
use Rattle.surface_of_sheet.proofs.Answered.{taken_is}
use Rattle.surface_of_sheet.proofs.Runs.{run_laws}
use Rattle.surface_of_sheet.proofs.Sizes.{small_level}
use Rattle.light_sheet_demands.specs.CallRecords.{Read, FillRun}
use Rattle.light_sheet_demands.specs.Demands.{GivesLevel}
use Rattle.light_sheet_demands.specs.Pooling.{OnePixel}
use Rattle.light_sheet_demands.proofs.Readings.{no_values_lem, taken, pixel_held}
use Rattle.light_sheet_demands.proofs.Sizes.{level_of_float}

-- ---- readings

module _ {s t : List ℕ} {x y : ℕ} {r : Answer} (c : Read s x y 0 r t) where
  values_are : (outcome r).number ≡ 0 → (outcome r).values ≡ quotient (positive 64 tt) (level s x y) ∷ []
  unfolding answered numbers
  values_are z = c.values ∙ ap (λ o. o.values) (taken_is s x y 0 (taken c z))

  -- one value is none of a refusal
  not_refused : {v : Float} → (outcome r).values ≡ v ∷ [] → (outcome r).number ≡ 0
  not_refused e = elim (ℕ_discrete (outcome r).number 0) [
    | yes z ↦ z
    | no h ↦ absurd (omega (arith, sym (ap length e) ∙ ap length (no_values_lem c h)))
  ]

  pub level_given : {z : ℤ} → GivesLevel r z → level s x y ≡ z
  level_given {z} g =
      let n = not_refused g.value in
      let h = pixel_held c n in
      let float : g.float ≡ quotient (positive 64 tt) (level s x y) = ap (λ l. get_or l 0 g.float) (sym g.value ∙ values_are n) in
      level_of_float (level s x y) z (small_level s x y h.accepted h.inside) (rw float at g.exact)

  -- a level is given only at a pixel of the mesh
  pub level_inside : {z : ℤ} → GivesLevel r z → Inside s x y
  level_inside g = (pixel_held c (not_refused g.value)).inside

  pub gives_level : Accepted s → Inside s x y → (z : ℤ) × GivesLevel r z
  gives_level a i =
      let n = c.answer ∙ reading_taken (record { accepted = a; inside = i; kind = lit≤ tt }) in (
        level s x y,
        record {
          float = quotient (positive 64 tt) (level s x y);
          value = values_are n;
          exact = quotient_laws.exact 0 (level s x y) (small_level s x y a i);
        },
      )

-- ---- runs

pub run_level : {s t : List ℕ} {x y : ℕ} {row row' : List ℤ} → FillRun s x y row 0 row' t → (k : ℕ) → k < length row → get_or row' k (pos 0) ≡ level s (x + k) y
run_level c k l = rw c.levels (run_laws.levels _ _ _ _ (sym c.answer) k l)

pub one_pixel : (s : List ℕ) (x y : ℕ) → run_refusal s x y 1 ≡ 0 → OnePixel s x y (level s x y)
unfolding filled levels_along
one_pixel s x y e = record {
  run = λ l c. let z = ap (run_refusal s x y) l ∙ e in (c.answer ∙ z, c.levels ∙ rw (eq-eqb _ _ z, l) refl);
}
