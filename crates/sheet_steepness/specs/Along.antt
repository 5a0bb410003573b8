-- Heights and slopes along an axis of a sheet: those of the node at its line k, on line l of the other axis. Assumes nothing.
use Rattle.std.specs.Prelude.{ℕ, List, ℤ}
use Rattle.sheet_layout.specs.Format.{columns, rows, height_at}
use Rattle.sheet_layout.specs.declared.axis.Axis.{Axis}
use Rattle.sheet_layout.specs.declared.axis.Axis.TheVariants
use Rattle.sheet_slopes.specs.Slopes.{filled_x, filled_y}

-- how many lines the other axis has
abbrev pub lines_across : Axis → List ℕ → ℕ
lines_across TheVariants.X s = rows s
lines_across TheVariants.Y s = columns s

-- the node's height
abbrev pub height_along : Axis → List ℕ → ℕ → ℕ → ℤ
height_along TheVariants.X s l k = height_at s k l
height_along TheVariants.Y s l k = height_at s l k

-- the slope along the axis that the stiffness t gives the node
abbrev pub filled_along : Axis → List ℕ → ℕ → ℕ → ℕ → ℤ
filled_along TheVariants.X s t k l = filled_x s t k l
filled_along TheVariants.Y s t k l = filled_y s t l k
