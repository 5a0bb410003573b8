-- The rounding of a sum beside the sum of the roundings: they are at most 1 apart. Assumes nothing.
use Rattle.std.specs.Prelude.{ℕ, ◌<◌, ℤ, ◌+ℤ◌, ◌-ℤ◌}
use Rattle.integers.specs.Within.{◌within◌}
use Rattle.integers.specs.Round.{round}

pub record RoundedSums : Type 0 where
  -- of two numbers: three errors of half a unit, so less than 2. It holds of every rounding to the nearest
  pub two : (m n : ℤ) (d : ℕ) → 0 < d → (round (m +ℤ n) d -ℤ (round m d +ℤ round n d)) within 1
  -- of three: four errors of half a unit would make 2, but they never all meet, since a tie has one side
  pub three : (l m n : ℤ) (d : ℕ) → 0 < d → (round (l +ℤ m +ℤ n) d -ℤ (round l d +ℤ round m d +ℤ round n d)) within 1
