-- 01's starred examples on whole sheets in bytes, and a sheet of four cells: what reading answers and what runs leave, computed on the definitions. Assumes
-- nothing.
use Rattle.std.specs.Prelude.{ℕ, ◌≡◌, List, [], ◌∷◌, ◌++◌, map, true, false, T, ℤ, pos, negsuc, length, replicate}
use Rattle.std.specs.Float.{fin}
use Rattle.integers.specs.Stepwise.{step}
use Rattle.element_sibson.specs.Piece.{right, bottom, left}
use Rattle.element_sibson.specs.Element.{+◌, −◌}
use Rattle.sheet_calls.specs.Refusals.{run_refusal}
use Rattle.sheet_layout.specs.Examples.{header, sheet_a}
use Rattle.surface_answers.specs.Answers.{Outcome, answered}
use Rattle.surface_of_sheet.specs.Place.{seen, touches}
use Rattle.surface_of_sheet.specs.Surface.{level_at, bend_xx_at, bend_yy_at}
use Rattle.surface_of_sheet.specs.Read.{read}
use Rattle.surface_of_sheet.specs.Steep.{steep}
use Rattle.surface_of_sheet.specs.Run.{slot_level, after_steps, begun, filled}

-- ---- sheets

-- lines 0 and 2, heights 10 and 11 are 2, all x-slopes 64
abbrev pub plane : List ℕ
plane =
    header ++ (0 ∷ 0 ∷ 2 ∷ 0 ∷ 0 ∷ 0 ∷ 2 ∷ 0 ∷ []) ++
    (0 ∷ 0 ∷ 64 ∷ 0 ∷ 0 ∷ 0 ∷ []) ++ (2 ∷ 0 ∷ 64 ∷ 0 ∷ 0 ∷ 0 ∷ []) ++ (0 ∷ 0 ∷ 64 ∷ 0 ∷ 0 ∷ 0 ∷ []) ++ (2 ∷ 0 ∷ 64 ∷ 0 ∷ 0 ∷ 0 ∷ [])

-- good_06.lvs of tests/vectors: vertical lines 1, 4 and 7, horizontal lines 283, 284 and 287
abbrev pub four_cells : List ℕ
four_cells =
    (0x4C ∷ 0x56 ∷ 0x53 ∷ 1 ∷ 0 ∷ 3 ∷ 3 ∷ 0 ∷ []) ++ (1 ∷ 0 ∷ 4 ∷ 0 ∷ 7 ∷ 0 ∷ 27 ∷ 1 ∷ 28 ∷ 1 ∷ 31 ∷ 1 ∷ []) ++
    (1 ∷ 240 ∷ 250 ∷ 255 ∷ 0 ∷ 0 ∷ 0 ∷ 0 ∷ 255 ∷ 255 ∷ 4 ∷ 0 ∷ 1 ∷ 0 ∷ 1 ∷ 240 ∷ 0 ∷ 0 ∷ []) ++
    (248 ∷ 255 ∷ 0 ∷ 0 ∷ 253 ∷ 255 ∷ 0 ∷ 0 ∷ 0 ∷ 0 ∷ 255 ∷ 15 ∷ 1 ∷ 240 ∷ 1 ∷ 240 ∷ 1 ∷ 240 ∷ []) ++
    (1 ∷ 0 ∷ 1 ∷ 0 ∷ 248 ∷ 255 ∷ 7 ∷ 0 ∷ 255 ∷ 15 ∷ 255 ∷ 255 ∷ 255 ∷ 255 ∷ 0 ∷ 0 ∷ 1 ∷ 0 ∷ [])

-- ---- tables

-- a sheet, a pixel, a kind of reading, and what reading there answers
pub record Example : Type 0 where
  pub sheet : List ℕ
  pub x : ℕ
  pub y : ℕ
  pub kind : ℕ
  pub gives : Outcome

-- the level, the tilt and the bend at a pixel, as whole numbers
abbrev pub level_row : List ℕ → ℕ → ℕ → ℤ → Example
level_row s x y z = record { sheet = s; x = x; y = y; kind = 0; gives = answered 0 (z ∷ []) }

abbrev pub tilt_row : List ℕ → ℕ → ℕ → ℤ → ℤ → Example
tilt_row s x y z w = record { sheet = s; x = x; y = y; kind = 1; gives = answered 1 (z ∷ w ∷ []) }

abbrev pub bend_row : List ℕ → ℕ → ℕ → ℤ → ℤ → ℤ → Example
bend_row s x y xx xy yy = record { sheet = s; x = x; y = y; kind = 2; gives = answered 2 (xx ∷ xy ∷ yy ∷ []) }

-- a refusal: its number and no values
abbrev pub refusal : List ℕ → ℕ → ℕ → ℕ → ℕ → Example
refusal s x y kind n = record { sheet = s; x = x; y = y; kind = kind; gives = record { number = n; values = [] } }

-- 01's examples with a star
abbrev pub starred : List Example
starred =
    -- sheet A
    level_row sheet_a 0 0 (+ 64) ∷
    level_row sheet_a 1 0 (+ 32) ∷
    level_row sheet_a 1 1 (+ 16) ∷
    bend_row sheet_a 1 1 (+ 0) (+ 3072) (+ 0) ∷
    bend_row sheet_a 0 0 (− 6144) (+ 0) (− 6144) ∷
    -- lines 0 and 4, only x-slope 00 is 64; 01 has bend xx, the others were worked out in exact fractions
    level_row (steep 4 64 0) 1 1 (+ 30) ∷
    tilt_row (steep 4 64 0) 1 1 (+ 14) (− 12) ∷
    bend_row (steep 4 64 0) 1 1 (− 2560) (+ 256) (− 768) ∷
    -- lines 0 and 2, x-slopes 00 of 1, 2, 3, −2 and −3
    level_row (steep 2 1 0) 1 0 (+ 0) ∷
    level_row (steep 2 2 0) 1 0 (+ 1) ∷
    level_row (steep 2 3 0) 1 0 (+ 1) ∷
    level_row (steep 2 254 255) 1 0 (+ 0) ∷
    level_row (steep 2 253 255) 1 0 (− 1) ∷
    -- a plane
    level_row plane 1 1 (+ 64) ∷ []

-- four cells, as the vectors have them, and refusals
abbrev pub further : List Example
further =
    -- in the first cell; on the line to its right; on the line below it; where the inner lines cross
    bend_row four_cells 2 283 (+ 3727616) (+ 85) (+ 66787221) ∷
    bend_row four_cells 4 283 (+ 177536) (− 85) (− 524736) ∷
    bend_row four_cells 2 284 (+ 7282) (+ 87424) (− 151559) ∷
    level_row four_cells 4 284 (+ 0) ∷
    tilt_row four_cells 4 284 (+ 0) (+ 4095) ∷
    bend_row four_cells 4 284 (− 11007360) (− 174720) (− 68203) ∷
    -- in the last cell, on a diagonal of it, and on the outermost lines
    level_row four_cells 6 285 (− 144896) ∷
    bend_row four_cells 5 285 (− 3727360) (+ 3603570) (− 22734) ∷
    bend_row four_cells 7 285 (+ 7432896) (+ 87360) (+ 3901170) ∷
    bend_row four_cells 5 287 (− 182002) (+ 43) (− 3710087) ∷
    tilt_row four_cells 7 287 (+ 0) (+ 1) ∷
    -- refused: outside; outside and of no kind; of no kind; no sheet
    refusal four_cells 8 285 0 7 ∷
    refusal four_cells 4 288 3 7 ∷
    refusal four_cells 7 287 3 9 ∷
    refusal [] 0 0 3 1 ∷ []

-- each reads as it says
abbrev pub Reads : List Example → Type 0
Reads table = map (λ e. read e.sheet e.x e.y e.kind) table ≡ map (λ e. e.gives) table

-- ---- runs

-- a sheet, a pixel, a lent row, the number that filling it gives, and what it leaves there
pub record Run : Type 0 where
  pub sheet : List ℕ
  pub x : ℕ
  pub y : ℕ
  pub row : List ℤ
  pub gives : ℕ
  pub leaves : List ℤ

-- a row that has been lent with 7 in each of its slots
abbrev pub sevens : ℕ → List ℤ
sevens count = replicate count (+ 7)

-- the levels from a pixel to the right
abbrev pub levels_of : List ℕ → ℕ → ℕ → List ℤ → Run
levels_of s x y zs = record { sheet = s; x = x; y = y; row = sevens (length zs); gives = 0; leaves = zs }

-- a refusal: the row as it was
abbrev pub declined : List ℕ → ℕ → ℕ → ℕ → ℕ → Run
declined s x y count n = record { sheet = s; x = x; y = y; row = sevens count; gives = n; leaves = sevens count }

abbrev pub runs : List Run
runs =
    -- the rows of sheet A
    levels_of sheet_a 0 0 (+ 64 ∷ + 32 ∷ + 0 ∷ []) ∷
    levels_of sheet_a 0 1 (+ 32 ∷ + 16 ∷ + 0 ∷ []) ∷
    levels_of sheet_a 0 2 (+ 0 ∷ + 0 ∷ + 0 ∷ []) ∷
    -- rows of four cells, as the vectors have them: along an inner line; through both cells below; through a part of each; the last pixel
    levels_of four_cells 1 284 (− 512 ∷ − 379 ∷ − 133 ∷ + 0 ∷ − 67037 ∷ − 192313 ∷ − 262080 ∷ []) ∷
    levels_of four_cells 1 285 (− 362 ∷ − 11 ∷ + 903 ∷ + 1936 ∷ − 46407 ∷ − 144896 ∷ − 195970 ∷ []) ∷
    levels_of four_cells 3 286 (− 458 ∷ + 1242 ∷ − 17129 ∷ []) ∷
    levels_of four_cells 7 287 (− 64 ∷ []) ∷
    -- refused: one pixel too many; from outside; empty; empty and outside; no sheet
    declined sheet_a 0 0 4 7 ∷
    declined four_cells 0 285 3 7 ∷
    declined four_cells 4 285 0 8 ∷
    declined four_cells 8 285 0 7 ∷
    declined [] 0 0 1 1 ∷ []

-- each gives its number and leaves its row
abbrev pub Fills : List Run → Type 0
Fills table =
    (map (λ e. run_refusal e.sheet e.x e.y (length e.row)) table ≡ map (λ e. e.gives) table)
    × (map (λ e. filled e.sheet e.x e.y e.row) table ≡ map (λ e. e.leaves) table)

pub record Examples : Type 0 where
  pub starred_read : Reads starred
  pub further_read : Reads further
  pub runs_fill : Fills runs
  -- one slot of A's first row done, then two
  pub one_done : begun sheet_a 0 0 1 (sevens 3) ≡ + 64 ∷ + 7 ∷ + 7 ∷ []
  pub two_done : begun sheet_a 0 0 2 (sevens 3) ≡ + 64 ∷ + 32 ∷ + 7 ∷ []
  -- the same by steps: the first, the second by itself, two one after the other
  pub first_step : step (slot_level sheet_a 0 0) 0 (sevens 3) ≡ + 64 ∷ + 7 ∷ + 7 ∷ []
  pub second_step : step (slot_level sheet_a 0 0) 1 (sevens 3) ≡ + 7 ∷ + 32 ∷ + 7 ∷ []
  pub two_steps : after_steps sheet_a 0 0 2 (sevens 3) ≡ + 64 ∷ + 32 ∷ + 7 ∷ []
  -- as floats: the level 16 of A is 2⁻², its tilt −48, 0 is −3 · 2⁻², +0, its bend 0, 3072, 0 is +0, 3 · 2⁻², +0
  pub level : read sheet_a 1 1 0 ≡ record { number = 0; values = fin false 1 (negsuc 1) ∷ [] }
  pub tilt : read sheet_a 1 0 1 ≡ record { number = 0; values = fin true 3 (negsuc 1) ∷ fin false 0 (pos 0) ∷ [] }
  pub bend : read sheet_a 1 1 2 ≡ record { number = 0; values = fin false 0 (pos 0) ∷ fin false 3 (negsuc 1) ∷ fin false 0 (pos 0) ∷ [] }
  -- a refusal has its number and no values
  pub refused : read sheet_a 3 0 3 ≡ record { number = 7; values = [] }
  -- on a diagonal piece 3 touches the pixel too; its bend xx is another, the one that 01 warns of
  pub on_diagonal : T (touches (steep 4 64 0) (seen (steep 4 64 0) 0 0 left 1 1) 1 1)
  pub diagonal_bend : bend_xx_at (steep 4 64 0) (seen (steep 4 64 0) 0 0 left 1 1) ≡ − 1792
  -- on an inner line the cell to the left, or above, touches the pixel too: the same level, another bend
  pub on_vertical : T (touches four_cells (seen four_cells 0 0 right 4 283) 4 283)
  pub vertical_level : level_at four_cells (seen four_cells 0 0 right 4 283) ≡ + 0
  pub vertical_bend : bend_xx_at four_cells (seen four_cells 0 0 right 4 283) ≡ − 11182428
  pub on_horizontal : T (touches four_cells (seen four_cells 0 0 bottom 2 284) 2 284)
  pub horizontal_level : level_at four_cells (seen four_cells 0 0 bottom 2 284) ≡ − 379
  pub horizontal_bend : bend_yy_at four_cells (seen four_cells 0 0 bottom 2 284) ≡ − 66525589
