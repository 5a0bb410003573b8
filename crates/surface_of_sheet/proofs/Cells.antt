-- The cells of an accepted sheet are 1 to 64 pixels wide and high, and their nodes' numbers are in range. Assumes nothing.
use Prim.Native.Nat.{ℕ, suc, ◌+◌, ◌-◌, ◌≤◌, ◌<◌}
use mathlib.Core.Path.{◌≡◌, ◌∙◌, ap}
use mathlib.Core.List.{List}
use native.Mathlib.Omega.{arith}
use lib.Dec.{lit≤}
use lib.IntN.{ℤ, pos}
use Rattle.integers.specs.Within.{◌within◌}
use Rattle.integers.proofs.Bounds.{within-*, is_within}
use Rattle.element_sibson.specs.Cubic.{Jet}
use Rattle.element_sibson.specs.Piece.{Corner, left_top, right_top, left_bottom, right_bottom}
use Rattle.element_sibson.specs.Element.{corner_numbers}
use Rattle.element_cell.specs.Cell.{Side, side, cell}
use Rattle.element_cell.specs.Corners.{largest, AllWithin, Measured}
use Rattle.element_cell.proofs.Arrays.{measured_within}
use Rattle.element_cell.proofs.Sides.{side_is}
use Rattle.sheet_layout.specs.Format.{columns, rows, line_x, line_y, height_at, slope_x_at, slope_y_at}
use Rattle.sheet_calls.specs.Refusals.{Accepted}
use Rattle.sheet_calls.specs.WellFormed.{Rising, WellFormed}
use Rattle.sheet_calls.proofs.WellFormed.{accepted_laws}
use Rattle.surface_of_sheet.specs.Place.{cell_of, HasCell}
use Rattle.surface_of_sheet.specs.Surface.{node_numbers, nodes_of}

-- two lines of an axis in a row are 1 to 64 pixels apart
pub gap_side : {line : ℕ → ℕ} {n : ℕ} → Rising line n → (k : ℕ) → suc k < n → Side (line (suc k) - line k)
gap_side {line} r k l = let up = r.rises k l in let near = r.narrow k l in record { least = omega arith; most = omega arith }

gap_back : {line : ℕ → ℕ} {n : ℕ} → Rising line n → (k : ℕ) → suc k < n → line k + (side (line (suc k) - line k)).number ≡ line (suc k)
gap_back {line} r k l =
    let up = r.rises k l in let whole : line k + (line (suc k) - line k) ≡ line (suc k) = omega arith in
    ap (λ (g : ℕ). line k + g) (side_is (gap_side r k l)) ∙ whole

abbrev JetIn : Jet ℤ → Type 0
JetIn j = (j.height within largest) × (j.x_slope within 4095) × (j.y_slope within 4095)

before : {k n : ℕ} → suc k < n → k < n
before h = omega arith

module _ (s : List ℕ) (accepted : Accepted s) where
  pub sound : WellFormed s
  sound = accepted_laws.sound s accepted

  pub x_rising : Rising (line_x s) (columns s)
  x_rising = sound.rising_x

  pub y_rising : Rising (line_y s) (rows s)
  y_rising = sound.rising_y

  -- no line lies beyond 4,096
  pub last_x_near : line_x s (columns s - 1) ≤ 4096
  last_x_near = x_rising.near (columns s - 1) (omega (arith, sound.few_columns))

  pub last_y_near : line_y s (rows s - 1) ≤ 4096
  last_y_near = y_rising.near (rows s - 1) (omega (arith, sound.few_rows))

  -- a node's numbers are in range
  number_in : (i j : ℕ) → i < columns s → j < rows s → JetIn (node_numbers s i j)
  unfolding node_numbers height_at slope_x_at slope_y_at
  number_in i j l k = let v = sound.ranges i j l k in (within-* {A = 64} (is_within (pos 64) (lit≤ tt)) v.stored_height, v.slope_x, v.slope_y)

  module _ (i j : ℕ) (has : HasCell s i j) where
    width_side : Side (line_x s (suc i) - line_x s i)
    width_side = gap_side x_rising i has.column

    height_side : Side (line_y s (suc j) - line_y s j)
    height_side = gap_side y_rising j has.row

    pub width_back : line_x s i + (cell_of s i j).W.number ≡ line_x s (suc i)
    unfolding cell_of cell
    width_back = gap_back x_rising i has.column

    pub height_back : line_y s j + (cell_of s i j).H.number ≡ line_y s (suc j)
    unfolding cell_of cell
    height_back = gap_back y_rising j has.row

    node_in_lem : (c : Corner) → JetIn (nodes_of s i j c)
    unfolding nodes_of
    node_in_lem left_top = number_in i j (before has.column) (before has.row)
    node_in_lem right_top = number_in (suc i) j has.column (before has.row)
    node_in_lem left_bottom = number_in i (suc j) (before has.column) has.row
    node_in_lem right_bottom = number_in (suc i) (suc j) has.column has.row

    pub measured : Measured (nodes_of s i j)
    measured = record { heights = λ c. (node_in_lem c).0; x_slopes = λ c. (node_in_lem c).1; y_slopes = λ c. (node_in_lem c).2 }

    pub numbers_within : AllWithin largest (corner_numbers (cell_of s i j) (nodes_of s i j))
    unfolding cell_of
    numbers_within = measured_within measured width_side height_side
