-- What a call for a zoned level gives, by its record: the level, or the refusal; and what the call for C leaves. Assumes nothing.
use Rattle.std.proofs.Common.{Result, Ok, subst}
use Prim.Native.Nat.{ℕ}
use mathlib.Core.Path.{◌≡◌, sym, ◌∙◌, ap}
use mathlib.Core.List.{List}
use lib.IntN.{ℤ}
use lib.ListN.{get_or}
use Rattle.surface_zones.specs.Zoned.{zoned_level, zoned_refusal, ZonedAnswer, zoned_outcome, zoned_answer}
use Rattle.sheet_calls.specs.declared.refusal.Refusal.{Refusal}
use Rattle.sheet_calls.specs.Refused.{RefusedWith}
use Rattle.surface_zones.proofs.Answer.{answer_number, answers, refused, level_answer}
use Rattle.light_sheet_c.specs.Values.{level_over}
use Rattle.light_sheet_demands.specs.CallRecords.{ZonedLevel, ZonedLevelInto}

module _ {s b t b' : List ℕ} {x y : ℕ} {r : Result ℤ Refusal} (c : ZonedLevel s b x y r t b') where
  outcome_is : zoned_outcome r ≡ zoned_answer s b x y
  outcome_is = λ i. record { number = (c.answer ∙ sym (answer_number s b x y)) i; levels = c.levels i }

  pub level_is : (zoned_outcome r).number ≡ 0 → r ≡ Ok (zoned_level s b x y)
  level_is z = answers s b x y (sym c.answer ∙ z) r outcome_is

  pub refused_level : {n : ℕ} → (zoned_outcome r).number ≡ n → ¬ (n ≡ 0) → RefusedWith r n
  refused_level {n} e h = let q = sym c.answer ∙ e in subst (RefusedWith r) q (refused s b x y (λ z. h (sym q ∙ z)) r outcome_is)

-- a call that gives a level is taken, and gives the zoned level
pub given_level : {s b t b' : List ℕ} {x y : ℕ} {v : ℤ} → ZonedLevel s b x y (Ok v) t b' → (zoned_refusal s b x y ≡ 0) × (v ≡ zoned_level s b x y)
unfolding zoned_outcome
given_level {v = v} c =
    let e = sym c.answer in (e, ap (λ (l : List ℤ). get_or l 0 v) (c.levels ∙ ap (λ (a : ZonedAnswer). a.levels) (level_answer _ _ _ _ e)))

-- ---- in C

level_left : {s b t b' : List ℕ} {x y n : ℕ} {held held' : ℤ} (c : ZonedLevelInto s b x y held n held' t b') {r : Result ℤ Refusal} → c.zoned ≡ r →
    held' ≡ level_over (zoned_outcome r) held
level_left {held = held} c e = c.level ∙ ap (λ r. level_over (zoned_outcome r) held) e

pub level_kept : {s b t b' : List ℕ} {x y n : ℕ} {held held' : ℤ} → ZonedLevelInto s b x y held n held' t b' → ¬ (n ≡ 0) → held' ≡ held
unfolding level_over zoned_outcome
level_kept c h = let w = refused_level c.is_zoned (sym c.answer) h in level_left c w.is

pub level_written : {s b t b' : List ℕ} {x y : ℕ} {held held' : ℤ} (c : ZonedLevelInto s b x y held 0 held' t b') → c.zoned ≡ Ok held'
unfolding level_over zoned_outcome
level_written c = let e = level_is c.is_zoned (sym c.answer) in e ∙ ap Ok (sym (level_left c e))
