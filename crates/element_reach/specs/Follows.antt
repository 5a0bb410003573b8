-- A level that follows a height. Assumes nothing.
use Rattle.std.specs.Prelude.{ℤ, pos, nat_abs, ◌-ℤ◌, ◌≤ℤ◌}
use Rattle.integers.specs.Within.{◌within◌}

-- where a height changes by z, a level goes from k to l: never against the sign of z, and by at most |z|
pub record Follows (z k l : ℤ) : Type 0 where
  pub up : pos 0 ≤ℤ z → k ≤ℤ l
  pub down : z ≤ℤ pos 0 → l ≤ℤ k
  pub most : (l -ℤ k) within nat_abs z
