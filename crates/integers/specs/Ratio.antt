-- The numbers that division and rounding take. Assumes nothing.
use Rattle.std.specs.Prelude.{◌^◌, ℤ, pos, ◌<ℤ◌}
use Rattle.integers.specs.Within.{◌within◌}

-- a denominator is from 1 to 2³⁷
pub record Denominates (d : ℤ) : Type 0 where
  pub positive : pos 0 <ℤ d
  pub small : d within (2 ^ 37)

-- a numerator is within 2⁶²
pub record Ratio (n d : ℤ) : Type 0 where
  pub numerator : n within (2 ^ 62)
  pub denominator : Denominates d
