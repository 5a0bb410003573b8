-- What `zoned_level` gives, and what `lvs_zoned_level` does, is a zoned level's number and its level. Assumes nothing.
use Rattle.std.proofs.Common.{Result, Ok, Err}
use Prim.Native.Nat.{ℕ}
use mathlib.Core.Path.{◌≡◌, refl, sym, ◌∙◌, ap}
use mathlib.Core.List.{List}
use native.Mathlib.Decide.{ℕ_discrete}
use lib.IntN.{ℤ}
use Rattle.surface_zones.specs.Zoned.{zoned_level, zoned_refusal, zoned_outcome, zoned_answer}
use Rattle.sheet_calls.specs.declared.refusal.Refusal.{Refusal}
use Rattle.surface_zones.proofs.Answer.{level_answer, refused_answer, answer_number, zoned_named}
use Rattle.light_sheet_c.specs.Values.{level_over}
use Rattle.light_sheet_demands.specs.CallRecords.{ZonedLevel, ZonedLevelInto}

-- some answer has that number and level
answering : (s b : List ℕ) (x y : ℕ) → (r : Result ℤ Refusal) × (zoned_outcome r ≡ zoned_answer s b x y)
unfolding zoned_outcome
answering s b x y = elim (ℕ_discrete (zoned_refusal s b x y) 0) [
  | yes e ↦ (Ok (zoned_level s b x y), sym (level_answer s b x y e))
  | no h ↦ let m = zoned_named s b x y h in (Err m.refusal, rw m.numbered (sym (refused_answer s b x y refl h)))
]

pub is_zoned_lem : {s b t b' : List ℕ} {x y : ℕ} {r : Result ℤ Refusal} → zoned_outcome r ≡ zoned_answer s b x y → t ≡ s → b' ≡ b → ZonedLevel s b x y r t b'
is_zoned_lem e k l = record { answer = ap (λ a. a.number) e ∙ answer_number _ _ _ _; levels = ap (λ a. a.levels) e; sheet = k; zones = l }

pub zoned_into_lem : (s b t b' : List ℕ) (x y : ℕ) (held : ℤ) {n : ℕ} {held' : ℤ} →
    n ≡ (zoned_answer s b x y).number → held' ≡ level_over (zoned_answer s b x y) held → t ≡ s → b' ≡ b → ZonedLevelInto s b x y held n held' t b'
zoned_into_lem s b t b' x y held d e k l = let a = answering s b x y in let o = sym a.1 in record {
  zoned = a.0;
  is_zoned = is_zoned_lem a.1 k l;
  answer = d ∙ ap (λ q. q.number) o;
  level = e ∙ ap (λ q. level_over q held) o;
}
