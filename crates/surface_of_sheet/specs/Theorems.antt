-- What holds of every accepted sheet: of its surface and readings, the sentences of demand 3 that speak of sheets; of what `read` returns and a run leaves; of
-- readings at nodes; and what 01 says of levels. Assumes nothing.
use Rattle.std.specs.Prelude.{ℕ, suc, ◌+◌, ◌^◌, ◌≤◌, ◌<◌, ◌≡◌, List, [], ◌∷◌, Float, ℤ, pos, nat_abs, ◌*ℤ◌, length, get_or, set}
use Rattle.element_sibson.specs.Fraction.{Positive, positive, ℚ, whole, half, ◌-ℚ◌, ◌÷◌}
use Rattle.element_sibson.specs.Cubic.{jet, ◌≋◌}
use Rattle.element_sibson.specs.Piece.{top, right, bottom, left, FourCubics, edge}
use Rattle.element_sibson.specs.Conditions.{Meets, Equal}
use Rattle.element_sibson.specs.Theorems.{Has, wholes}
use Rattle.element_readings.specs.Reading.{◌withinℚ◌}
use Rattle.sheet_layout.specs.Format.{columns, rows, line_x, line_y, Node, grains_per_step, height_at, slope_x_at, slope_y_at}
use Rattle.sheet_calls.specs.Refusals.{setting_refusal, reading_refusal, run_refusal, Accepted}
use Rattle.sheet_calls.specs.WellFormed.{Inside}
use Rattle.sheet_calls.specs.Calls.{with_node}
use Rattle.surface_answers.specs.Answers.{outcome, divisor, quotient, answered}
use Rattle.surface_answers.specs.AnswerLaws.{◌is◌}
use Rattle.surface_answers.specs.declared.Answer.{Answer}
use Rattle.surface_answers.specs.declared.Answer.TheVariants.{Level, Tilt, Bend, Refused}
use Rattle.surface_of_sheet.specs.Place.{cell_of, HasCell, place}
use Rattle.surface_of_sheet.specs.Surface.{nodes_of, set_of, jet_at, level, tilt_x, tilt_y, bend_xx, bend_xy, bend_yy}
use Rattle.surface_of_sheet.specs.Read.{exact, read}
use Rattle.surface_of_sheet.specs.Run.{levels_along, after_steps, begun, filled}

-- ---- the set we read from

-- S meets the conditions and has the nodes' numbers (heights in grains, slopes) at the corners of the cell
pub record Fits (s : List ℕ) (i j : ℕ) (S : FourCubics) : Type 0 where
  pub meets : Meets (cell_of s i j) S
  pub nodes : Has (cell_of s i j) S (λ c. wholes (nodes_of s i j c))

-- on every accepted sheet, in each cell, the set we read from is the one that does
pub record TheSet : Type 0 where
  -- the cell is as wide and high as its lines are apart
  pub widths : (s : List ℕ) → Accepted s → (i j : ℕ) → HasCell s i j → line_x s i + (cell_of s i j).W.number ≡ line_x s (suc i)
  pub heights : (s : List ℕ) → Accepted s → (i j : ℕ) → HasCell s i j → line_y s j + (cell_of s i j).H.number ≡ line_y s (suc j)
  pub fits : (s : List ℕ) → Accepted s → (i j : ℕ) → HasCell s i j → Fits s i j (set_of s i j)
  pub only : (s : List ℕ) → Accepted s → (i j : ℕ) → HasCell s i j → (S : FourCubics) → Fits s i j S → Equal S (set_of s i j)

-- two cells that share an edge agree at every point of it in height, x-slope and y-slope: t of the way from the top, or from the left
pub record SharedEdges : Type 0 where
  pub side_by_side : (s : List ℕ) → Accepted s → (i j : ℕ) → HasCell s i j → HasCell s (suc i) j → (t : ℚ) →
      jet (cell_of s i j) (set_of s i j right) (edge right t) ≋ jet (cell_of s (suc i) j) (set_of s (suc i) j left) (edge left t)
  pub one_above_the_other : (s : List ℕ) → Accepted s → (i j : ℕ) → HasCell s i j → HasCell s i (suc j) → (t : ℚ) →
      jet (cell_of s i j) (set_of s i j bottom) (edge bottom t) ≋ jet (cell_of s i (suc j)) (set_of s i (suc j) top) (edge top t)

-- ---- what a reading returns

-- which answer `read` returns, by the refusal and the kind
pub record ReadLaws : Type 0 where
  -- refused, the number of the first condition to hold and nothing else
  pub refused : (s : List ℕ) (x y kind : ℕ) → ¬ (reading_refusal s x y kind ≡ 0) → (r : Answer) → outcome r ≡ read s x y kind → r ≡ Refused (reading_refusal s x y kind)
  -- else the level, the tilt or the bend, over 64, 64 and 4,096
  pub level : (s : List ℕ) (x y : ℕ) → reading_refusal s x y 0 ≡ 0 → (r : Answer) → outcome r ≡ read s x y 0 → r ≡ Level (quotient (positive 64 tt) (level s x y))
  pub tilt : (s : List ℕ) (x y : ℕ) → reading_refusal s x y 1 ≡ 0 → (r : Answer) → outcome r ≡ read s x y 1 → r ≡ Tilt (quotient (positive 64 tt) (tilt_x s x y)) (quotient (positive 64 tt) (tilt_y s x y))
  pub bend : (s : List ℕ) (x y : ℕ) → reading_refusal s x y 2 ≡ 0 → (r : Answer) → outcome r ≡ read s x y 2 →
      r ≡ Bend (quotient (positive 4096 tt) (bend_xx s x y)) (quotient (positive 4096 tt) (bend_xy s x y)) (quotient (positive 4096 tt) (bend_yy s x y))

-- ---- what a run leaves

pub record RunLaws : Type 0 where
  -- the row keeps its length; refused, it is as it was
  pub size : (s : List ℕ) (x y : ℕ) (row : List ℤ) → length (filled s x y row) ≡ length row
  pub refused : (s : List ℕ) (x y : ℕ) (row : List ℤ) → ¬ (run_refusal s x y (length row) ≡ 0) → filled s x y row ≡ row
  -- else the sheet is accepted, every pixel of the run lies in the mesh, and slot k holds the level of the pixel k to the right
  pub accepted : (s : List ℕ) (x y count : ℕ) → run_refusal s x y count ≡ 0 → Accepted s
  pub inside : (s : List ℕ) (x y count : ℕ) → run_refusal s x y count ≡ 0 → (k : ℕ) → k < count → Inside s (x + k) y
  pub levels : (s : List ℕ) (x y : ℕ) (row : List ℤ) → run_refusal s x y (length row) ≡ 0 → (k : ℕ) → k < length row → get_or (filled s x y row) k (pos 0) ≡ level s (x + k) y
  -- from every pixel of an accepted sheet's mesh to every one to its right, or itself, a run is not refused
  pub taken : (s : List ℕ) (x y k : ℕ) → Accepted s → Inside s x y → Inside s (x + k) y → run_refusal s x y (suc k) ≡ 0
  -- k slots done, for every k: none is the row as it was, each further slot holds its level, all are the run
  pub none : (s : List ℕ) (x y : ℕ) (row : List ℤ) → begun s x y 0 row ≡ row
  pub one_more : (s : List ℕ) (x y k : ℕ) (row : List ℤ) → k < length row → begun s x y (suc k) row ≡ set (begun s x y k row) k (level s (x + k) y)
  pub all : (s : List ℕ) (x y : ℕ) (row : List ℤ) → begun s x y (length row) row ≡ levels_along s x y (length row)
  -- the row after k steps, for every k up to its length, is the one of which k slots are done
  pub is_begun : (s : List ℕ) (x y k : ℕ) (row : List ℤ) → k ≤ length row → after_steps s x y k row ≡ begun s x y k row

-- ---- half a unit

-- the float is exactly a whole number over d, and that number lies within half a unit of x
pub record HalfUnitFrom (d : Positive) (v : Float) (x : ℚ) : Type 0 where
  pub number : ℤ
  pub float : v is whole number ÷ d
  pub near : whole number -ℚ x withinℚ half

-- P of the elements of two lists, which are equally many
abbrev pub EachPair : {A B : Type 0} → (A → B → Type 0) → List A → List B → Type 0
EachPair P [] [] = Unit {0}
EachPair P [] (y ∷ ys) = ⊥
EachPair P (x ∷ xs) [] = ⊥
EachPair P (x ∷ xs) (y ∷ ys) = P x y × EachPair P xs ys

-- the answer is no refusal, and each of its values is so near to the exact one
abbrev pub HalfUnitsFrom : Positive → Answer → List ℚ → Type 0
HalfUnitsFrom d r xs = ((outcome r).number ≡ 0) × EachPair (HalfUnitFrom d) (outcome r).values xs

-- at every pixel of the mesh of an accepted sheet a reading is not refused, and each value that it returns, times the kind's divisor, is a whole number within
-- half a unit of the exact value of the cubic on the pixel's cell and piece
pub record HalfUnits : Type 0 where
  pub returned : (s : List ℕ) (x y kind : ℕ) → Accepted s → Inside s x y → kind ≤ 2 → (r : Answer) → outcome r ≡ read s x y kind →
      HalfUnitsFrom (divisor kind) r (exact s x y kind)
  -- and each level of a run that is not refused lies within half a unit of the height of that cubic
  pub runs : (s : List ℕ) (x y : ℕ) (row : List ℤ) → run_refusal s x y (length row) ≡ 0 → (k : ℕ) → k < length row →
      whole (get_or (filled s x y row) k (pos 0)) -ℚ (jet_at s (place s (x + k) y)).height withinℚ half
  -- a level lies strictly between −2²⁰ and 2²⁰
  pub levels : (s : List ℕ) (x y : ℕ) → Accepted s → Inside s x y → nat_abs (level s x y) < 2 ^ 20

-- ---- readings at nodes

pub record AtNodes : Type 0 where
  -- at a node's pixel the level is its height in grains, and the tilt its slopes
  pub node_levels : (s : List ℕ) (i j : ℕ) → Accepted s → i < columns s → j < rows s → level s (line_x s i) (line_y s j) ≡ height_at s i j
  pub node_tilts_x : (s : List ℕ) (i j : ℕ) → Accepted s → i < columns s → j < rows s → tilt_x s (line_x s i) (line_y s j) ≡ slope_x_at s i j
  pub node_tilts_y : (s : List ℕ) (i j : ℕ) → Accepted s → i < columns s → j < rows s → tilt_y s (line_x s i) (line_y s j) ≡ slope_y_at s i j
  pub read_levels : (s : List ℕ) (i j : ℕ) → Accepted s → i < columns s → j < rows s → read s (line_x s i) (line_y s j) 0 ≡ answered 0 (height_at s i j ∷ [])
  pub read_tilts : (s : List ℕ) (i j : ℕ) → Accepted s → i < columns s → j < rows s →
      read s (line_x s i) (line_y s j) 1 ≡ answered 1 (slope_x_at s i j ∷ slope_y_at s i j ∷ [])
  -- so a node that is set reads back as the new numbers: height in grains, slopes
  pub set_levels : (s : List ℕ) (i j : ℕ) (v : Node) → setting_refusal s i j v ≡ 0 →
      read (with_node s i j v) (line_x s i) (line_y s j) 0 ≡ answered 0 ((grains_per_step *ℤ v.stored_height) ∷ [])
  pub set_tilts : (s : List ℕ) (i j : ℕ) (v : Node) → setting_refusal s i j v ≡ 0 →
      read (with_node s i j v) (line_x s i) (line_y s j) 1 ≡ answered 1 (v.slope_x ∷ v.slope_y ∷ [])
