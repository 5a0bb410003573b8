-- The lines along each of a sheet's two axes. Assumes nothing.
use Rattle.std.specs.Prelude.{ℕ, List}
use Rattle.sheet_layout.specs.Format.{columns, rows, x_lines_offset, y_lines_offset, line_x, line_y}
use Rattle.sheet_layout.specs.declared.axis.Axis.{Axis}
use Rattle.sheet_layout.specs.declared.axis.Axis.TheVariants

-- where the positions of an axis's lines start
abbrev pub start_of : Axis → List ℕ → ℕ
start_of TheVariants.X s = x_lines_offset
start_of TheVariants.Y s = y_lines_offset s

-- how many there are: vertical ones along x, horizontal ones along y
abbrev pub lines_of : Axis → List ℕ → ℕ
lines_of TheVariants.X s = columns s
lines_of TheVariants.Y s = rows s

-- the position of line k
abbrev pub line_of : Axis → List ℕ → ℕ → ℕ
line_of TheVariants.X s k = line_x s k
line_of TheVariants.Y s k = line_y s k
