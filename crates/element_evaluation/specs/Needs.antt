-- What the code asks of numbers. Assumes nothing.
use Rattle.std.specs.Prelude.{List, ℕ, ℤ, pos, get_or}
use Rattle.integers.specs.Within.{◌within◌}

-- every number of a list is within N
pub record EachWithin (N : ℕ) (zs : List ℤ) : Type 0 where
  pub each : (i : ℕ) → get_or zs i (pos 0) within N
