-- Filling in place, node by node: each step reads the heights in the sheet as it then is. Assumes nothing.
use Rattle.std.specs.Prelude.{ℕ, zero, suc, ◌+◌, ◌≤◌, ◌<◌, ◌≡◌, List, true, length}
use Rattle.sheet_words.specs.Word.{replaced}
use Rattle.sheet_layout.specs.Format.{columns, rows, line_x, line_y, slope_bytes, height_size, slope_in, node_offset, stated_size}
use Rattle.sheet_calls.specs.WellFormed.{Rising}
use Rattle.sheet_slopes.specs.Slopes.{filled_x, filled_y}

-- the slopes of one node put behind its height
unfoldable pub node_filled : List ℕ → ℕ → ℕ → ℕ → List ℕ
node_filled s t i j = replaced s (node_offset s i j + height_size) (slope_bytes (filled_x s t i j) (filled_y s t i j))

-- those of the first k nodes of row j
unfoldable pub row_filled : List ℕ → ℕ → ℕ → ℕ → List ℕ
row_filled s t j zero = s
row_filled s t j (suc k) = node_filled (row_filled s t j k) t k j

-- those of the first k rows
unfoldable pub rows_filled : List ℕ → ℕ → ℕ → List ℕ
rows_filled s t zero = s
rows_filled s t (suc k) = row_filled (rows_filled s t k) t k (columns s)

-- what the steps ask: of the length, of the lines and of the heights; the slopes that are stored do not matter
pub record Fillable (s : List ℕ) (t : ℕ) : Type 0 where
  pub whole : length s ≡ stated_size s
  pub few_columns : 2 ≤ columns s
  pub few_rows : 2 ≤ rows s
  pub rising_x : Rising (line_x s) (columns s)
  pub rising_y : Rising (line_y s) (rows s)
  pub stiffness : t ≤ 64
  pub slopes_x : (i j : ℕ) → i < columns s → j < rows s → slope_in (filled_x s t i j) ≡ true
  pub slopes_y : (i j : ℕ) → i < columns s → j < rows s → slope_in (filled_y s t i j) ≡ true
