-- What is computed once for a denominator, so that a quotient over it can be guessed without a division. Assumes nothing.
use Rattle.std.specs.Prelude.{◌≡◌, ◌*◌, ◌/◌, ◌^◌, ℤ, pos, nat_abs}
use Rattle.integers.specs.declared.Denominator.{Denominator}
use Rattle.integers.specs.Within.{◌within◌}
use Rattle.integers.specs.Ratio.{Denominates}

-- `scale` raises d to about 2³⁷, and `inverse` is about 2⁶⁴ over the raised d
unfoldable pub constants : ℤ → Denominator
constants d = record {
  value = d;
  scale = pos (2 ^ 37 / nat_abs d);
  inverse = pos (2 ^ 62 / (nat_abs d * (2 ^ 37 / nat_abs d) / 4));
}

-- a denominator with its constants
pub record Prepared (k : Denominator) : Type 0 where
  pub denominator : Denominates k.value
  pub computed : k ≡ constants k.value

-- and a numerator whose quotient is within 2²⁴, as far as the guess reaches
pub record InReach (n : ℤ) (k : Denominator) : Type 0 where
  pub prepared : Prepared k
  pub quotient : n within (2 ^ 24 * nat_abs k.value)
