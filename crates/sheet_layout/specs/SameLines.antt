-- Sheets on the same lines. Assumes nothing.
use Rattle.std.specs.Prelude.{ℕ, ◌<◌, ◌≡◌, List}
use Rattle.sheet_layout.specs.Format.{columns, rows, line_x, line_y}

-- t has the lines of s: as many each way, at the same positions
pub record SameLines (s t : List ℕ) : Type 0 where
  pub same_columns : columns t ≡ columns s
  pub same_rows : rows t ≡ rows s
  pub same_x : (k : ℕ) → k < columns s → line_x t k ≡ line_x s k
  pub same_y : (k : ℕ) → k < rows s → line_y t k ≡ line_y s k
