-- The surface of a sheet: in each cell the Sibson element of its four nodes; and level, tilt and bend, read from it. Assumes nothing.
use Rattle.std.specs.Prelude.{ℕ, suc, List, ℤ}
use Rattle.element_sibson.specs.Fraction.{ℚ}
use Rattle.element_sibson.specs.Cubic.{Cubic, Jet, jet}
use Rattle.element_sibson.specs.Piece.{FourCubics, left_top, right_top, left_bottom, right_bottom}
use Rattle.element_sibson.specs.Element.{Nodes, element}
use Rattle.element_readings.specs.Reading.{level_of, tilt_x_of, tilt_y_of, bend_xx_of, bend_xy_of, bend_yy_of}
use Rattle.sheet_layout.specs.Format.{height_at, slope_x_at, slope_y_at}
use Rattle.surface_of_sheet.specs.Place.{cell_of, Place, cell_at, point_at, place}

-- ---- the set we read from

-- the node in column i and row j: its height in grains and its slopes in grains per pixel
unfoldable pub node_numbers : List ℕ → ℕ → ℕ → Jet ℤ
node_numbers s i j = record { height = height_at s i j; x_slope = slope_x_at s i j; y_slope = slope_y_at s i j }

-- the nodes at the corners of the cell in column i and row j
unfoldable pub nodes_of : List ℕ → ℕ → ℕ → Nodes
nodes_of s i j left_top = node_numbers s i j
nodes_of s i j right_top = node_numbers s (suc i) j
nodes_of s i j left_bottom = node_numbers s i (suc j)
nodes_of s i j right_bottom = node_numbers s (suc i) (suc j)

-- 01's set we read from in that cell
unfoldable pub set_of : List ℕ → ℕ → ℕ → FourCubics
set_of s i j = element (cell_of s i j) (nodes_of s i j)

-- the cubic at a place: that of its cell and piece
abbrev pub cubic_at : List ℕ → Place → Cubic
cubic_at s p = set_of s p.column p.row p.piece

-- its height and slopes there, in grains and grains per pixel
unfoldable pub jet_at : List ℕ → Place → Jet ℚ
jet_at s p = jet (cell_at s p) (cubic_at s p) (point_at s p)

-- ---- readings at a place: the exact values rounded

unfoldable pub level_at : List ℕ → Place → ℤ
level_at s p = level_of (cell_at s p) (cubic_at s p) (point_at s p)

unfoldable pub tilt_x_at : List ℕ → Place → ℤ
tilt_x_at s p = tilt_x_of (cell_at s p) (cubic_at s p) (point_at s p)

unfoldable pub tilt_y_at : List ℕ → Place → ℤ
tilt_y_at s p = tilt_y_of (cell_at s p) (cubic_at s p) (point_at s p)

unfoldable pub bend_xx_at : List ℕ → Place → ℤ
bend_xx_at s p = bend_xx_of (cell_at s p) (cubic_at s p) (point_at s p)

unfoldable pub bend_xy_at : List ℕ → Place → ℤ
bend_xy_at s p = bend_xy_of (cell_at s p) (cubic_at s p) (point_at s p)

unfoldable pub bend_yy_at : List ℕ → Place → ℤ
bend_yy_at s p = bend_yy_of (cell_at s p) (cubic_at s p) (point_at s p)

-- ---- at a pixel: those at its place

unfoldable pub level : List ℕ → ℕ → ℕ → ℤ
level s x y = level_at s (place s x y)

unfoldable pub tilt_x : List ℕ → ℕ → ℕ → ℤ
tilt_x s x y = tilt_x_at s (place s x y)

unfoldable pub tilt_y : List ℕ → ℕ → ℕ → ℤ
tilt_y s x y = tilt_y_at s (place s x y)

unfoldable pub bend_xx : List ℕ → ℕ → ℕ → ℤ
bend_xx s x y = bend_xx_at s (place s x y)

unfoldable pub bend_xy : List ℕ → ℕ → ℕ → ℤ
bend_xy s x y = bend_xy_at s (place s x y)

unfoldable pub bend_yy : List ℕ → ℕ → ℕ → ℤ
bend_yy s x y = bend_yy_at s (place s x y)
