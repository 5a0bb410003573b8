-- 01's sheet A, an oblong sheet and the largest one, byte by byte, and what their lines and nodes hold. Assumes nothing.
use Rattle.std.specs.Prelude.{ℕ, zero, suc, ◌+◌, ◌≡◌, List, [], ◌∷◌, ◌++◌, pos, replicate}
use Rattle.sheet_words.specs.Word.{bytes_of}
use Rattle.sheet_layout.specs.Format.{line_x, line_y, node, node_at, height_at, slope_x_at, slope_y_at}

-- a sheet of two lines each way with this header, the vertical lines at 0 and x, the horizontal ones at 0 and 2, and all numbers 0 but those of node 00
abbrev pub square : List ℕ → ℕ → List ℕ → List ℕ
square header x corner =
    header ++ (0 ∷ 0 ∷ x ∷ 0 ∷ 0 ∷ 0 ∷ 2 ∷ 0 ∷ []) ++ corner ++
    (0 ∷ 0 ∷ 0 ∷ 0 ∷ 0 ∷ 0 ∷ 0 ∷ 0 ∷ 0 ∷ 0 ∷ 0 ∷ 0 ∷ 0 ∷ 0 ∷ 0 ∷ 0 ∷ 0 ∷ 0 ∷ [])

abbrev pub header : List ℕ
header = 0x4C ∷ 0x56 ∷ 0x53 ∷ 1 ∷ 0 ∷ 2 ∷ 2 ∷ 0 ∷ []

-- a height and two slopes of 0
abbrev pub flat : ℕ → ℕ → List ℕ
flat low high = low ∷ high ∷ 0 ∷ 0 ∷ 0 ∷ 0 ∷ []

-- 01's sheet A
abbrev pub sheet_a : List ℕ
sheet_a = square header 2 (flat 1 0)

-- 3 columns and 2 rows, the vertical lines at 4,000, 4,050 and 4,096, the horizontal ones at 5 and 9, the nodes' numbers 1 to 18 in order
abbrev pub oblong : List ℕ
oblong =
    (0x4C ∷ 0x56 ∷ 0x53 ∷ 1 ∷ 0 ∷ 3 ∷ 2 ∷ 0 ∷ []) ++ (160 ∷ 15 ∷ 210 ∷ 15 ∷ 0 ∷ 16 ∷ 5 ∷ 0 ∷ 9 ∷ 0 ∷ []) ++
    (1 ∷ 0 ∷ 2 ∷ 0 ∷ 3 ∷ 0 ∷ 4 ∷ 0 ∷ 5 ∷ 0 ∷ 6 ∷ 0 ∷ 7 ∷ 0 ∷ 8 ∷ 0 ∷ 9 ∷ 0 ∷ []) ++
    (10 ∷ 0 ∷ 11 ∷ 0 ∷ 12 ∷ 0 ∷ 13 ∷ 0 ∷ 14 ∷ 0 ∷ 15 ∷ 0 ∷ 16 ∷ 0 ∷ 17 ∷ 0 ∷ 18 ∷ 0 ∷ [])

-- the bytes of count lines, the first at a position, each a gap after the one before
unfoldable pub evenly : ℕ → ℕ → ℕ → List ℕ
evenly zero gap position = []
evenly (suc count) gap position = bytes_of position ++ evenly count gap (position + gap)

-- 65 lines each way: the vertical ones at 0, 64, 128 and so on to 4,096, the horizontal ones at 5, 68, 131 and so on to 4,037; all numbers 0
abbrev pub largest : List ℕ
largest = (0x4C ∷ 0x56 ∷ 0x53 ∷ 1 ∷ 0 ∷ 65 ∷ 65 ∷ 0 ∷ []) ++ evenly 65 64 0 ++ evenly 65 63 5 ++ replicate 25350 0

pub record Examples : Type 0 where
  -- node 00 of sheet A is 1 step high, that is 64 grains
  pub corner : node_at sheet_a 0 0 ≡ node (pos 1) (pos 0) (pos 0)
  pub grains : height_at sheet_a 0 0 ≡ pos 64
  -- nodes lie row by row: the last of the first row, the first of the second
  pub row_end : node_at oblong 2 0 ≡ node (pos 7) (pos 8) (pos 9)
  pub row_start : node_at oblong 0 1 ≡ node (pos 10) (pos 11) (pos 12)
  pub along_x : slope_x_at oblong 2 0 ≡ pos 8
  pub along_y : slope_y_at oblong 2 0 ≡ pos 9
  -- the first lines and the last of 65
  pub first_x : line_x largest 0 ≡ 0
  pub last_x : line_x largest 64 ≡ 4096
  pub first_y : line_y largest 0 ≡ 5
  pub last_y : line_y largest 64 ≡ 4037
