-- What holds of every small whole number over the divisor of a kind holds of every value of a reading of that kind. Assumes nothing.
use Prim.Native.Nat.{ℕ, zero, suc}
use mathlib.Core.List.{List, map}
use native.Mathlib.Decide.{ℕ_discrete}
use lib.IntN.{ℤ}
use lib.Ieee.{Float}
use Rattle.sheet_calls.specs.Refusals.{reading_refusal, Accepted}
use Rattle.sheet_calls.specs.WellFormed.{Inside}
use Rattle.sheet_calls.proofs.Chains.{reading_held}
use Rattle.surface_answers.specs.Answers.{Every, divisor, quotient, answered, refused, FitsFloat}
use Rattle.surface_of_sheet.specs.Read.{numbers, read}
use Rattle.surface_of_sheet.proofs.Answered.{taken_is, refused_is}
use Rattle.surface_of_sheet.proofs.Sizes.{small_level, small_tilts, small_bends}

each_quotient : (P : Float → Type 0) (s : List ℕ) (x y : ℕ) → Accepted s → Inside s x y → (kind : ℕ) →
    ((z : ℤ) → FitsFloat z → P (quotient (divisor kind) z)) → Every P (map (quotient (divisor kind)) (numbers s x y kind))
unfolding numbers
each_quotient P s x y a i zero h = (h _ (small_level s x y a i), tt)
each_quotient P s x y a i (suc zero) h = let (p, q) = small_tilts s x y a i in (h _ p, (h _ q, tt))
each_quotient P s x y a i (suc (suc kind)) h = let (p, q, r) = small_bends s x y a i in (h _ p, (h _ q, (h _ r, tt)))

pub each_value : (P : Float → Type 0) (s : List ℕ) (x y kind : ℕ) → ((z : ℤ) → FitsFloat z → P (quotient (divisor kind) z)) → Every P (read s x y kind).values
unfolding answered refused
each_value P s x y kind h = elim (ℕ_discrete (reading_refusal s x y kind) 0) [
  | yes e ↦ let p = reading_held s x y kind e in rw (taken_is s x y kind e) (each_quotient P s x y p.accepted p.inside kind h)
  | no n ↦ rw (refused_is s x y kind n) tt
]
