-- The rounding rule of levels, tilts, bends and filled slopes, and its laws. Assumes nothing.
use Rattle.std.specs.Prelude.{◌≡◌, ℕ, ◌*◌, ◌<◌, ℤ, pos, ◌+ℤ◌, ◌-ℤ◌, ◌*ℤ◌, ◌≤ℤ◌, ◌<ℤ◌}
use Rattle.integers.specs.Within.{◌within◌}
use Rattle.integers.specs.Floor.{floor_div}

-- n / d plus one half, rounded down, for d above 0: a tie goes up. The sum is (2n + d) / 2d
unfoldable pub round : ℤ → ℕ → ℤ
round n d = floor_div (pos 2 *ℤ n +ℤ pos d) (2 * d)

-- What others may use of the rule. All but the last four, from `down` on, hold of every rounding of the value n/d to the nearest.
pub record RoundingLaws : Type 0 where
  -- | round − n/d | ≤ 1/2
  pub half_unit : (n : ℤ) (d : ℕ) → 0 < d → (pos 2 *ℤ (round n d *ℤ pos d -ℤ n)) within d
  -- a whole number stays
  pub whole : (k : ℤ) (d : ℕ) → 0 < d → round (k *ℤ pos d) d ≡ k
  pub monotone : (m n : ℤ) (d : ℕ) → 0 < d → m ≤ℤ n → round m d ≤ℤ round n d
  -- a common factor of numerator and denominator cancels
  pub cancels : (n : ℤ) (d : ℕ) → 0 < d → (k : ℕ) → 0 < k → round (n *ℤ pos k) (d * k) ≡ round n d
  -- a whole number q with | q − n/d | < 1/2 is the result
  pub nearest : (n : ℤ) (d : ℕ) → 0 < d → (q : ℤ) → (pos 2 *ℤ (q *ℤ pos d -ℤ n)) <ℤ pos d → (pos 2 *ℤ (n -ℤ q *ℤ pos d)) <ℤ pos d → round n d ≡ q
  -- round ≤ n/d + 1/2 < round + 1, all times 2d; and no other whole number lies so
  pub down : (n : ℤ) (d : ℕ) → 0 < d → (round n d *ℤ pos (2 * d)) ≤ℤ (pos 2 *ℤ n +ℤ pos d)
  pub below : (n : ℤ) (d : ℕ) → 0 < d → (pos 2 *ℤ n +ℤ pos d) <ℤ ((round n d +ℤ pos 1) *ℤ pos (2 * d))
  pub only : (n : ℤ) (d : ℕ) → 0 < d → (q : ℤ) → (q *ℤ pos (2 * d)) ≤ℤ (pos 2 *ℤ n +ℤ pos d) → (pos 2 *ℤ n +ℤ pos d) <ℤ ((q +ℤ pos 1) *ℤ pos (2 * d)) → round n d ≡ q
  -- n/d = q + 1/2 goes up
  pub tie : (n : ℤ) (d : ℕ) → 0 < d → (q : ℤ) → pos 2 *ℤ n ≡ (pos 2 *ℤ q +ℤ pos 1) *ℤ pos d → round n d ≡ q +ℤ pos 1
