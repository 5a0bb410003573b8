-- What a call for a zoned level answers: the level, or the number of its refusal. Assumes nothing.
use Rattle.std.proofs.Common.{Result, Ok, Err}
use Prim.Native.Nat.{ℕ}
use mathlib.Core.Path.{◌≡◌, refl, ◌∙◌, ap}
use mathlib.Core.List.{List, [], ◌∷◌}
use native.Mathlib.Decide.{ℕ_discrete}
use lib.IntN.{ℤ}
use lib.ListN.{get_or, length}
use native.Mathlib.Omega.{arith}
use borrow.Author.Tests.{eq-eqb, ne_eqb}
use Rattle.sheet_calls.specs.declared.refusal.Refusal.TheVariants.{Outside, OtherZones, WrongZone}
use Rattle.sheet_zones.specs.Zones.{zone_rules}
use Rattle.surface_zones.specs.Zoned.{zoned_level, zoned_rules, zoned_refusal, ZonedAnswer, zoned_outcome, zoned_answer}
use Rattle.sheet_calls.specs.declared.refusal.Refusal.{Refusal}
use Rattle.sheet_calls.specs.Refused.{number, RefusedWith}
use Rattle.sheet_calls.proofs.Refused.{Named, name, first_named, sheet_named}

pub of_level_lem : (z : ℤ) → zoned_outcome (Ok z) ≡ record { number = 0; levels = z ∷ [] }
unfolding zoned_outcome
of_level_lem z = refl

pub of_refused_lem : (e : Refusal) → zoned_outcome (Err e) ≡ record { number = number e; levels = [] }
unfolding zoned_outcome
of_refused_lem e = refl

-- the outcome determines the answer
tells_level : (r : Result ℤ Refusal) (z : ℤ) → zoned_outcome r ≡ record { number = 0; levels = z ∷ [] } → r ≡ Ok z
unfolding zoned_outcome
tells_level (Ok w) z e = ap (λ (a : ZonedAnswer). Ok (get_or a.levels 0 w)) e
tells_level (Err x) z e = let none : ◌≡◌ {A = ℕ} 0 1 = ap (λ (a : ZonedAnswer). length a.levels) e in absurd (omega arith)

tells_refused : (r : Result ℤ Refusal) (n : ℕ) → zoned_outcome r ≡ record { number = n; levels = [] } → RefusedWith r n
unfolding zoned_outcome
tells_refused (Ok z) n e = let one : ◌≡◌ {A = ℕ} 1 0 = ap (λ (a : ZonedAnswer). length a.levels) e in absurd (omega arith)
tells_refused (Err x) n e = record { refusal = x; is = refl; numbered = ap (λ (a : ZonedAnswer). a.number) e }

module _ (s b : List ℕ) (x y : ℕ) where
  pub level_answer : zoned_refusal s b x y ≡ 0 → zoned_answer s b x y ≡ record { number = 0; levels = zoned_level s b x y ∷ [] }
  unfolding zoned_answer
  level_answer e = rw (eq-eqb _ 0 e) refl

  pub refused_answer : {n : ℕ} → n ≡ zoned_refusal s b x y → ¬ (n ≡ 0) → zoned_answer s b x y ≡ record { number = n; levels = [] }
  unfolding zoned_answer
  refused_answer e h = rw (← e, ne_eqb _ 0 h) refl

  -- its number is the refusal's
  pub answer_number : (zoned_answer s b x y).number ≡ zoned_refusal s b x y
  answer_number = elim (ℕ_discrete (zoned_refusal s b x y) 0) [
    | yes e ↦ rw (level_answer e, e) refl
    | no h ↦ rw (refused_answer refl h) refl
  ]

  pub answers : zoned_refusal s b x y ≡ 0 → (r : Result ℤ Refusal) → zoned_outcome r ≡ zoned_answer s b x y → r ≡ Ok (zoned_level s b x y)
  answers e r t = tells_level r _ (t ∙ level_answer e)

  pub refused : ¬ (zoned_refusal s b x y ≡ 0) → (r : Result ℤ Refusal) → zoned_outcome r ≡ zoned_answer s b x y → RefusedWith r (zoned_refusal s b x y)
  refused h r t = tells_refused r _ (t ∙ refused_answer refl h)

  -- a number that refuses the call is a refusal's
  pub zoned_named : ¬ (zoned_refusal s b x y ≡ 0) → Named (zoned_refusal s b x y)
  unfolding zoned_refusal zoned_rules zone_rules
  zoned_named h = first_named zoned_rules _ (sheet_named _ _ (name Outside, (name OtherZones, (name WrongZone, tt)))) h
