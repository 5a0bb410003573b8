-- Division that rounds down. Assumes nothing.
use Rattle.std.specs.Prelude.{◌≡◌, ℕ, ◌/◌, ◌<◌, ℤ, pos, negsuc, ◌+ℤ◌, ◌*ℤ◌, ◌≤ℤ◌, ◌<ℤ◌}

-- n / d rounded down, for d above 0; `negsuc a` is −1 − a
unfoldable pub floor_div : ℤ → ℕ → ℤ
floor_div (pos a) d = pos (a / d)
floor_div (negsuc a) d = negsuc (a / d)

-- it is the one whole number q with q ≤ n / d < q + 1
pub record FloorLaws : Type 0 where
  pub lower : (n : ℤ) (d : ℕ) → 0 < d → (floor_div n d *ℤ pos d) ≤ℤ n
  pub upper : (n : ℤ) (d : ℕ) → 0 < d → n <ℤ ((floor_div n d +ℤ pos 1) *ℤ pos d)
  pub unique : (n q : ℤ) (d : ℕ) → 0 < d → (q *ℤ pos d) ≤ℤ n → n <ℤ ((q +ℤ pos 1) *ℤ pos d) → floor_div n d ≡ q
