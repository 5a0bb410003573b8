-- What each condition says, in plain facts; and that the accepted sheets are those of which 01's sentences on the bytes hold. Assumes nothing.
use Rattle.std.specs.Prelude.{ℕ, suc, ◌+◌, ◌*◌, ◌-◌, ◌≤◌, ◌<◌, ◌≡◌, ◌↔◌, List, false, length, get_or, take}
use Rattle.integers.specs.Within.{◌within◌}
use Rattle.sheet_words.specs.Word.{byte_at, signed}
use Rattle.sheet_layout.specs.Format.{version, columns, rows, line_x, line_y, Node, node_at}
use Rattle.sheet_calls.specs.Refusals.{other_mark, other_version, other_counts, other_length, wrong_lines, wrong_nodes, outside, off_mesh, empty_run, other_kind, no_node, wrong_numbers, Accepted, sheet_refusal, check_refusal}

-- the positions of an axis's n lines: none exceeds 4,096, each rises above the one before, by at most 64
pub record Rising (line : ℕ → ℕ) (n : ℕ) : Type 0 where
  pub near : (k : ℕ) → k < n → line k ≤ 4096
  pub rises : (k : ℕ) → suc k < n → line k < line (suc k)
  pub narrow : (k : ℕ) → suc k < n → line (suc k) ≤ line k + 64

-- height and slopes each lie from −4,095 to 4,095
pub record InRange (v : Node) : Type 0 where
  pub stored_height : v.stored_height within 4095
  pub slope_x : v.slope_x within 4095
  pub slope_y : v.slope_y within 4095

-- pixel (x, y) lies between the outer lines, or on them
pub record Inside (s : List ℕ) (x y : ℕ) : Type 0 where
  pub left : line_x s 0 ≤ x
  pub right : x ≤ line_x s (columns s - 1)
  pub top : line_y s 0 ≤ y
  pub bottom : y ≤ line_y s (rows s - 1)

-- the sheet is accepted, and the pixel (x, y) and all count pixels of a run from there are of its mesh
pub record OnMesh (s : List ℕ) (x y count : ℕ) : Type 0 where
  pub accepted : Accepted s
  pub first : Inside s x y
  pub each : (k : ℕ) → k < count → Inside s (x + k) y

-- what each of 01's conditions says, by what holds exactly where it does not
pub record ConditionLaws : Type 0 where
  pub one : (s : List ℕ) → (other_mark s ≡ false) ↔ ((8 ≤ length s) × (byte_at s 0 ≡ 0x4C) × (byte_at s 1 ≡ 0x56) × (byte_at s 2 ≡ 0x53))
  pub two : (s : List ℕ) → (other_version s ≡ false) ↔ (byte_at s 3 + byte_at s 4 * 256 ≡ 1)
  pub three : (s : List ℕ) → (other_counts s ≡ false) ↔ ((2 ≤ byte_at s 5) × (byte_at s 5 ≤ 65) × (2 ≤ byte_at s 6) × (byte_at s 6 ≤ 65) × (byte_at s 7 ≡ 0))
  pub four : (s : List ℕ) → (other_length s ≡ false) ↔ (length s ≡ 8 + 2 * columns s + 2 * rows s + 6 * (columns s * rows s))
  pub five : (s : List ℕ) → (wrong_lines s ≡ false) ↔ (Rising (line_x s) (columns s) × Rising (line_y s) (rows s))
  pub six : (s : List ℕ) → (wrong_nodes s ≡ false) ↔ ((j : ℕ) → j < rows s → (i : ℕ) → i < columns s → InRange (node_at s i j))
  -- of a reading's pixel; of a run's first, and of its last, which is k to the right of the first where the run has k + 1
  pub seven : (s : List ℕ) (x y : ℕ) → (outside s x y ≡ false) ↔ Inside s x y
  pub seven_of_run : (s : List ℕ) (x y count : ℕ) → (off_mesh s x y count ≡ false) ↔ (Inside s x y × ((k : ℕ) → count ≡ k + 1 → Inside s (x + k) y))
  pub eight : (count : ℕ) → (empty_run count ≡ false) ↔ (0 < count)
  pub nine : (kind : ℕ) → (other_kind kind ≡ false) ↔ (kind ≤ 2)
  pub ten : (s : List ℕ) (i j : ℕ) → (no_node s i j ≡ false) ↔ ((i < columns s) × (j < rows s))
  pub eleven : (v : Node) → (wrong_numbers v ≡ false) ↔ InRange v
  -- the words above, byte by byte, of which there is a 0 past the end: how many lines there are each way, where each lies, and what a node holds that starts at
  -- index k: a height, then the slopes along x and y
  pub byte : (s : List ℕ) (i : ℕ) → byte_at s i ≡ get_or s i 0
  pub column_count : (s : List ℕ) → columns s ≡ byte_at s 5
  pub row_count : (s : List ℕ) → rows s ≡ byte_at s 6
  pub x_position : (s : List ℕ) (i : ℕ) → line_x s i ≡ byte_at s (8 + 2 * i) + byte_at s (8 + 2 * i + 1) * 256
  pub y_position : (s : List ℕ) (j : ℕ) → line_y s j ≡ byte_at s (8 + 2 * columns s + 2 * j) + byte_at s (8 + 2 * columns s + 2 * j + 1) * 256
  pub node_numbers : (s : List ℕ) (i j k : ℕ) → k ≡ 8 + 2 * columns s + 2 * rows s + 6 * (j * columns s + i) →
      ((node_at s i j).stored_height ≡ signed (byte_at s k + byte_at s (k + 1) * 256)) × ((node_at s i j).slope_x ≡ signed (byte_at s (k + 2) + byte_at s (k + 3) * 256))
      × ((node_at s i j).slope_y ≡ signed (byte_at s (k + 4) + byte_at s (k + 5) * 256))

-- what 01 says of the bytes of a sheet, as facts
pub record WellFormed (s : List ℕ) : Type 0 where
  pub mark_l : byte_at s 0 ≡ 0x4C
  pub mark_v : byte_at s 1 ≡ 0x56
  pub mark_s : byte_at s 2 ≡ 0x53
  pub version_one : version s ≡ 1
  pub few_columns : 2 ≤ columns s
  pub many_columns : columns s ≤ 65
  pub few_rows : 2 ≤ rows s
  pub many_rows : rows s ≤ 65
  pub blank : byte_at s 7 ≡ 0
  pub whole : length s ≡ 8 + 2 * columns s + 2 * rows s + 6 * (columns s * rows s)
  pub rising_x : Rising (line_x s) (columns s)
  pub rising_y : Rising (line_y s) (rows s)
  pub ranges : (i j : ℕ) → i < columns s → j < rows s → InRange (node_at s i j)

-- the accepted sheets are those, and those that no call refuses by 1 to 6; none has more than 25,618 bytes, and what stands behind one byte more changes no
-- refusal
pub record AcceptedLaws : Type 0 where
  pub unrefused : (s : List ℕ) → (sheet_refusal s ≡ 0) ↔ Accepted s
  pub checked : (s : List ℕ) → (check_refusal s ≡ 0) ↔ Accepted s
  pub sound : (s : List ℕ) → Accepted s → WellFormed s
  pub complete : (s : List ℕ) → WellFormed s → Accepted s
  pub longest : (s : List ℕ) → Accepted s → length s ≤ 25618
  pub cut : (s : List ℕ) (n : ℕ) → 25618 < n → sheet_refusal (take n s) ≡ sheet_refusal s
