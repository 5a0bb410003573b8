-- One height of a sheet nudged (02, #105): the two sheets; and where a pixel lies, outside the cells that touch the node, on their far sides, or within the
-- node's reach. Assumes nothing.
use Rattle.std.specs.Prelude.{ℕ, suc, ◌≤◌, ◌<◌, ◌≡◌, ◌⊎◌, List, ℤ, ◌+ℤ◌}
use Rattle.sheet_layout.specs.Format.{columns, rows, line_x, line_y, height_at, slope_x_at, slope_y_at}
use Rattle.sheet_calls.specs.OnSameLines.{OnSameLines}
use Rattle.sheet_reach.specs.Reach.{TouchesNode, outermost}
use Rattle.surface_of_sheet.specs.Place.{HasCell}
use Rattle.surface_of_sheet.specs.Surface.{node_numbers}

-- ---- the two sheets

-- both are accepted, on the same lines and with the same numbers, but for one height: that of the node in column i and row j is δ grains higher in t than in s,
-- lower where δ is below 0
pub record NudgedSheet (s : List ℕ) (i j : ℕ) (δ : ℤ) (t : List ℕ) : Type 0 where
  pub sheets : OnSameLines s t
  pub column : i < columns s
  pub row : j < rows s
  pub height : height_at t i j ≡ height_at s i j +ℤ δ
  pub slope_x : slope_x_at t i j ≡ slope_x_at s i j
  pub slope_y : slope_y_at t i j ≡ slope_y_at s i j
  pub others : (c r : ℕ) → c < columns s → r < rows s → ¬ ((c ≡ i) × (r ≡ j)) → node_numbers t c r ≡ node_numbers s c r

-- ---- pixels

-- pixel (x, y) lies in the cell in column a and row b, its four sides included
pub record InCellAt (s : List ℕ) (a b x y : ℕ) : Type 0 where
  pub left : line_x s a ≤ x
  pub right : x ≤ line_x s (suc a)
  pub top : line_y s b ≤ y
  pub bottom : y ≤ line_y s (suc b)

-- pixel (x, y) lies outside the cells that touch the node
pub record Apart (s : List ℕ) (i j x y : ℕ) : Type 0 where
  pub cells : (a b : ℕ) → HasCell s a b → TouchesNode a b i j → ¬ InCellAt s a b x y

-- along an axis: of the lines a and a + 1 one is the node's, line k, and the position is on the other
abbrev pub FarLine : (ℕ → ℕ) → ℕ → ℕ → ℕ → Type 0
FarLine line a k position = ((k ≡ suc a) × (position ≡ line a)) ⊎ ((k ≡ a) × (position ≡ line (suc a)))

-- pixel (x, y) lies on a side of a cell that touches the node, and that side does not run through the node
pub record OnFarSide (s : List ℕ) (i j x y : ℕ) : Type 0 where
  pub column : ℕ
  pub row : ℕ
  pub has : HasCell s column row
  pub touches : TouchesNode column row i j
  pub in_cell : InCellAt s column row x y
  pub side : FarLine (line_x s) column i x ⊎ FarLine (line_y s) row j y

-- pixel (x, y) lies outside the cells that touch the node, or on a side of theirs that does not run through it
abbrev pub Beside : List ℕ → ℕ → ℕ → ℕ → ℕ → Type 0
Beside s i j x y = Apart s i j x y ⊎ OnFarSide s i j x y

-- pixel (x, y) lies between the outermost lines of the cells that touch the node, and on one of these only where it runs through the node
pub record WithinReach (s : List ℕ) (i j x y : ℕ) : Type 0 where
  pub left : ((outermost s i j).left < x) ⊎ (x ≡ line_x s i)
  pub top : ((outermost s i j).top < y) ⊎ (y ≡ line_y s j)
  pub right : (x < (outermost s i j).right) ⊎ (x ≡ line_x s i)
  pub bottom : (y < (outermost s i j).bottom) ⊎ (y ≡ line_y s j)
