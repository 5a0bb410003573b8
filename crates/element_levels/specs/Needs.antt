-- What the code asks of a cubic along a row of pixels. Assumes nothing.
use Rattle.std.specs.Prelude.{ℕ, ◌+◌, ◌^◌, ◌≤◌, ◌<◌, List, ℤ, nat_abs}
use Rattle.integers.specs.Within.{◌within◌}
use Rattle.integers.specs.Round.{round}
use Rattle.integers.specs.Constants.{Prepared}
use Rattle.integers.specs.declared.Denominator.{Denominator}
use Rattle.element_row_cubic.specs.Row.{at_offset, reach}

-- a numerator whose level has no more than 20 bits
pub record LevelFits (n : ℤ) (d : Denominator) : Type 0 where
  pub prepared : Prepared d
  pub small : round n (nat_abs d.value) within (2 ^ 20)

-- at an offset the cubic stays within 64 bits, and the level within 20
pub record FitsAt (cubic : List ℤ) (offset : ℕ) (d : Denominator) : Type 0 where
  pub reached : reach cubic ≤ 2 ^ 62
  pub near : offset ≤ 64
  pub level : LevelFits (at_offset cubic offset) d

-- and so at count offsets
abbrev pub FitsAlong : List ℤ → ℕ → ℕ → Denominator → Type 0
FitsAlong cubic offset count d = (k : ℕ) → k < count → FitsAt cubic (offset + k) d
