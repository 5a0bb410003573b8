-- What an answer says: 01's number and values for each of its cases, and the floats that are the values. Assumes nothing.
use Rattle.std.specs.Prelude.{ℕ, zero, suc, ◌^◌, ◌<◌, List, [], ◌∷◌, map, ℤ, pos, nat_abs, Float}
use Rattle.std.specs.Float.{binary64}
use Rattle.std.specs.Float.Ieee.{of_int, div}
use Rattle.element_sibson.specs.Fraction.{Positive, positive}
use Rattle.surface_answers.specs.declared.Answer.{Answer}
use Rattle.surface_answers.specs.declared.Answer.TheVariants.{Level, Tilt, Bend, Refused}

-- 01's number, 0 where the call is not refused, and the values: one of a level, two of a tilt, three of a bend, none of a refusal
pub record Outcome : Type 0 where
  pub number : ℕ
  pub values : List Float

unfoldable pub outcome : Answer → Outcome
outcome (Level v) = record { number = 0; values = v ∷ [] }
outcome (Tilt x y) = record { number = 0; values = x ∷ y ∷ [] }
outcome (Bend xx xy yy) = record { number = 0; values = xx ∷ xy ∷ yy ∷ [] }
outcome (Refused n) = record { number = n; values = [] }

-- P of every value
abbrev pub Every : (Float → Type 0) → List Float → Type 0
Every P [] = Unit {0}
Every P (v ∷ vs) = P v × Every P vs

-- each reading kind has a divisor of its own: kind 0 is the level, 1 the tilt, 2 the bend
abbrev pub divisor : ℕ → Positive
divisor zero = positive 64 tt
divisor (suc zero) = positive 64 tt
divisor (suc (suc k)) = positive 4096 tt

-- a whole number divided by d, as 64-bit floats
unfoldable pub quotient : Positive → ℤ → Float
quotient d z = div binary64 (of_int binary64 z) (of_int binary64 (pos d.number))

-- a reading of this kind with these whole numbers
unfoldable pub answered : ℕ → List ℤ → Outcome
answered kind zs = record { number = 0; values = map (quotient (divisor kind)) zs }

-- a refusal with this number
unfoldable pub refused : ℕ → Outcome
refused n = record { number = n; values = [] }

-- a 64-bit float holds it exactly, as all whole numbers below 2⁵³ either way
unfoldable pub FitsFloat : ℤ → Type 0
FitsFloat z = nat_abs z < 2 ^ 53
