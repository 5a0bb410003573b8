-- What filling a run leaves in the lent row, for every input, and the row after each of its steps. Assumes nothing.
use Rattle.std.specs.Prelude.{ℕ, zero, suc, ◌+◌, List, [], ◌∷◌, ◌++◌, cond, eqb, ℤ, length, drop}
use Rattle.integers.specs.Stepwise.{steps}
use Rattle.sheet_calls.specs.Refusals.{run_refusal}
use Rattle.surface_of_sheet.specs.Surface.{level}

-- the levels of 01's run: of count pixels, from (x, y) to the right
unfoldable pub levels_along : List ℕ → ℕ → ℕ → ℕ → List ℤ
levels_along s x y zero = []
levels_along s x y (suc count) = level s x y ∷ levels_along s (suc x) y count

-- what slot k of a run's row is to hold: the level of the pixel k to the right
unfoldable pub slot_level : List ℕ → ℕ → ℕ → ℕ → ℤ
slot_level s x y k = level s (x + k) y

-- the row after k steps of the run; step j sets slot j to what it is to hold
abbrev pub after_steps : List ℕ → ℕ → ℕ → ℕ → List ℤ → List ℤ
after_steps s x y k row = steps (slot_level s x y) 0 k row

-- a row of which k slots are done: its first k hold their levels, the others what they held
unfoldable pub begun : List ℕ → ℕ → ℕ → ℕ → List ℤ → List ℤ
begun s x y k row = levels_along s x y k ++ drop k row

-- the lent row, a slot for each pixel of the run: refused, as it was; else the levels
unfoldable pub filled : List ℕ → ℕ → ℕ → List ℤ → List ℤ
filled s x y row = cond (eqb (run_refusal s x y (length row)) 0) (levels_along s x y (length row)) row
