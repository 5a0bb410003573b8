-- The list of bends cell by cell and row by row, as the code makes it. Assumes nothing.
use Rattle.std.specs.Prelude.{ℕ, ◌-◌, ℤ}
use mathlib.Core.List.{List, flat_map}
use Rattle.sheet_layout.specs.Format.{columns}
use Rattle.surface_bends.specs.Bends.{in_turn, touching_in, bends_at}

-- the bends from each piece of the cell in row j and column i that touches pixel (x, y)
unfoldable pub bends_in : List ℕ → ℕ → ℕ → ℕ → ℕ → List ℤ
bends_in s x y j i = flat_map (bends_at s) (touching_in s x y j i)

-- from those of all cells in row j
unfoldable pub bends_in_row : List ℕ → ℕ → ℕ → ℕ → List ℤ
bends_in_row s x y j = in_turn (columns s - 1) (bends_in s x y j)
