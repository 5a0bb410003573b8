-- What `read` gives, and what `lvs_read` gives and stores, is a reading's number and values. Assumes nothing.
use Prim.Native.Nat.{ℕ, zero, suc}
use mathlib.Core.Path.{◌≡◌, sym, ◌∙◌, ap}
use mathlib.Core.List.{List}
use native.Mathlib.Decide.{ℕ_discrete}
use Rattle.sheet_calls.specs.Refusals.{reading_refusal}
use Rattle.surface_answers.specs.Answers.{outcome, divisor, quotient, answered, refused}
use Rattle.surface_answers.specs.declared.Answer.{Answer}
use Rattle.surface_answers.specs.declared.Answer.TheVariants.{Level, Tilt, Bend, Refused}
use Rattle.surface_of_sheet.specs.Surface.{level, tilt_x, tilt_y, bend_xx, bend_xy, bend_yy}
use Rattle.surface_of_sheet.specs.Read.{numbers, read}
use Rattle.surface_of_sheet.proofs.Answered.{taken_is, refused_is}
use Rattle.light_sheet_c.specs.Values.{bits, over}
use Rattle.light_sheet_demands.specs.CallRecords.{Read, ReadInto}
use Rattle.light_sheet_demands.proofs.Refusals.{read_number}

-- an answer's number and values are those of the reading, and the sheet is as it was
pub is_read_lem : {s t : List ℕ} {x y kind : ℕ} {r : Answer} → outcome r ≡ read s x y kind → t ≡ s → Read s x y kind r t
is_read_lem e k = record { answer = ap (λ o. o.number) e ∙ read_number _ _ _ _; values = ap (λ o. o.values) e; sheet = k }

-- some answer has them
answering : (s : List ℕ) (x y kind : ℕ) → (r : Answer) × (outcome r ≡ read s x y kind)
unfolding outcome answered refused numbers
answering s x y kind = elim (ℕ_discrete (reading_refusal s x y kind) 0) [
  | yes e ↦ taken kind e
  | no h ↦ (Refused (reading_refusal s x y kind), sym (refused_is s x y kind h))
]
  where
    taken : (k : ℕ) → reading_refusal s x y k ≡ 0 → (r : Answer) × (outcome r ≡ read s x y k)
    taken zero e = (Level (quotient (divisor 0) (level s x y)), sym (taken_is s x y 0 e))
    taken (suc zero) e = (Tilt (quotient (divisor 1) (tilt_x s x y)) (quotient (divisor 1) (tilt_y s x y)), sym (taken_is s x y 1 e))
    taken (suc (suc k)) e = (
      Bend (quotient (divisor 2) (bend_xx s x y)) (quotient (divisor 2) (bend_xy s x y)) (quotient (divisor 2) (bend_yy s x y)),
      sym (taken_is s x y (suc (suc k)) e),
    )

pub read_into : (s t : List ℕ) (x y kind : ℕ) (array : List ℕ) {n : ℕ} {array' : List ℕ} →
    n ≡ (read s x y kind).number → array' ≡ over (bits (read s x y kind).values) array → t ≡ s → ReadInto s x y kind array n array' t
read_into s t x y kind array d e k = let a = answering s x y kind in let o = sym a.1 in record {
  reading = a.0;
  is_read = is_read_lem a.1 k;
  answer = d ∙ ap (λ q. q.number) o;
  values = e ∙ ap (λ q. over (bits q.values) array) o;
}
