-- What storing a reading's values in a lent array leaves there, a count of pieces in a lent number, and a zoned level in a lent place. The array has words of 64
-- bits, and a value is stored as its float's bits. Assumes nothing.
use Rattle.std.specs.Prelude.{ℕ, not, cond, List, [], ◌∷◌, map, T, eqb, ℤ, get_or, Float}
use Rattle.std.specs.Float.{binary64}
use Rattle.std.specs.Float.Ieee.{is_nan, to_bits}
use Rattle.surface_bends.specs.Bends.{Tally}
use Rattle.surface_zones.specs.Zoned.{ZonedAnswer}

-- the float is no NaN, so it has one pattern of bits
abbrev pub IsNumber : Float → Type 0
IsNumber v = T (not (is_nan v))

-- the 64 bits of each value
abbrev pub bits : List Float → List ℕ
bits values = map (to_bits binary64) values

-- the array with the words in its first slots; the slots behind keep what they held, all of them where there are no words
unfoldable pub over : {A : Type 0} → List A → List A → List A
over [] array = array
over (w ∷ words) [] = []
over (w ∷ words) (a ∷ array) = w ∷ over words array

-- the count of pieces; or, of a refusal, what the number held before
unfoldable pub count_over : Tally → ℕ → ℕ
count_over t held = cond (eqb t.number 0) t.pieces held

-- the zoned level; or, of a refusal, what the place held before
unfoldable pub level_over : ZonedAnswer → ℤ → ℤ
level_over a held = get_or a.levels 0 held
