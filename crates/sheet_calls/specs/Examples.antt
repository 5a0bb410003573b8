-- Calls on 01's sheet A, on changes of it and on an oblong sheet, computed on the definitions. Assumes nothing.
use Rattle.std.specs.Prelude.{ℕ, ◌≡◌, List, [], ◌∷◌, ◌++◌, map, true, false, take, set, pos, negsuc}
use Rattle.sheet_layout.specs.Format.{node, height_at}
use Rattle.sheet_layout.specs.Examples.{square, header, flat, sheet_a, oblong, largest}
use Rattle.sheet_calls.specs.Refusals.{other_counts, other_length, wrong_lines, check_refusal, lookup_refusal, setting_refusal, reading_refusal, run_refusal}
use Rattle.sheet_calls.specs.Calls.{stretch, looked_up, with_node}

-- a sheet and what checking it gives
pub record Checked : Type 0 where
  pub sheet : List ℕ
  pub gives : ℕ

infix 10 ◌gives◌
abbrev pub ◌gives◌ : List ℕ → ℕ → Checked
s gives n = record { sheet = s; gives = n }

abbrev pub checked : List Checked
checked =
    (sheet_a gives 0) ∷
    -- no bytes, seven bytes, each byte of the mark
    ([] gives 1) ∷
    (take 7 sheet_a gives 1) ∷
    (set sheet_a 0 0x4D gives 1) ∷
    (set sheet_a 1 0x4C gives 1) ∷
    (set sheet_a 2 0x50 gives 1) ∷
    -- versions 0, 2, 256 + 1; a header alone has the wrong length
    (set sheet_a 3 0 gives 2) ∷
    (set sheet_a 3 2 gives 2) ∷
    (set sheet_a 4 1 gives 2) ∷
    (header gives 4) ∷
    -- 1, 65 and 66 columns, and rows; byte 7
    (set sheet_a 5 1 gives 3) ∷
    (set sheet_a 5 65 gives 4) ∷
    (set sheet_a 5 66 gives 3) ∷
    (set sheet_a 6 1 gives 3) ∷
    (set sheet_a 6 65 gives 4) ∷
    (set sheet_a 6 66 gives 3) ∷
    (set sheet_a 7 1 gives 3) ∷
    -- one byte too many, one too few
    (sheet_a ++ 0 ∷ [] gives 4) ∷
    (take 39 sheet_a gives 4) ∷
    -- gaps of 64, 65 and 0
    (square header 64 (flat 1 0) gives 0) ∷
    (square header 65 (flat 1 0) gives 5) ∷
    (square header 0 (flat 1 0) gives 5) ∷
    -- a last vertical line at 4,096 and at 4,097; the first there
    (oblong gives 0) ∷
    (set oblong 12 1 gives 5) ∷
    (set (set oblong 8 1) 9 16 gives 5) ∷
    -- horizontal lines with a gap of 0, of 65, and the last at 4,105
    (set oblong 16 5 gives 5) ∷
    (set oblong 16 70 gives 5) ∷
    (set oblong 17 16 gives 5) ∷
    -- the slopes of the last node: 4,096, −4,096
    (set (set oblong 50 0) 51 16 gives 6) ∷
    (set (set oblong 52 0) 53 240 gives 6) ∷
    -- heights 4,095, 4,096, −4,095, −4,096 and −32,768
    (square header 2 (flat 255 15) gives 0) ∷
    (square header 2 (flat 0 16) gives 6) ∷
    (square header 2 (flat 1 240) gives 0) ∷
    (square header 2 (flat 0 240) gives 6) ∷
    (square header 2 (flat 0 128) gives 6) ∷
    -- several at once: the first in order
    (set (set sheet_a 0 0) 3 0 gives 1) ∷
    (set (set sheet_a 3 0) 7 1 gives 2) ∷
    (set (set sheet_a 7 1) 10 65 ++ 0 ∷ [] gives 3) ∷
    (square header 65 (flat 0 16) ++ 0 ∷ [] gives 4) ∷
    (square header 65 (flat 0 16) gives 5) ∷
    []

pub record Examples : Type 0 where
  -- 65 lines each way are in order, as are the counts and the length; the last line each way at the place of the one before is not
  pub many_lines : wrong_lines largest ≡ false
  pub many_counts : other_counts largest ≡ false
  pub many_bytes : other_length largest ≡ false
  pub last_column_stays : wrong_lines (set (set largest 136 192) 137 15) ≡ true
  pub last_row_stays : wrong_lines (set (set largest 266 134) 267 15) ≡ true
  pub checks : map (λ e. check_refusal e.sheet) checked ≡ map (λ e. e.gives) checked
  -- node 00 of sheet A set to −1 step is 64 grains below
  pub lower : height_at (with_node sheet_a 0 0 (node (negsuc 0) (pos 0) (pos 0))) 0 0 ≡ negsuc 63
  -- its last node, and nodes that it does not have
  pub last_node : looked_up sheet_a 1 1 ≡ stretch 34 6
  pub column_too_far : lookup_refusal sheet_a 2 0 ≡ 10
  pub row_too_far : lookup_refusal sheet_a 0 2 ≡ 10
  pub farthest : lookup_refusal sheet_a 4294967295 0 ≡ 10
  pub nothing : looked_up sheet_a 2 0 ≡ stretch 0 0
  pub no_sheet : looked_up [] 0 0 ≡ stretch 0 0
  -- setting it: 4,095 is FF 0F, −4,095 is 01 F0, −1 is FF FF
  pub set_last : with_node sheet_a 1 1 (node (pos 4095) (negsuc 4094) (negsuc 0))
      ≡ take 34 sheet_a ++ 255 ∷ 15 ∷ 1 ∷ 240 ∷ 255 ∷ 255 ∷ []
  pub too_high : setting_refusal sheet_a 1 1 (node (pos 4096) (pos 0) (pos 0)) ≡ 11
  pub too_steep : setting_refusal sheet_a 1 1 (node (pos 0) (pos 0) (negsuc 4095)) ≡ 11
  pub place_first : setting_refusal sheet_a 2 0 (node (pos 4096) (pos 0) (pos 0)) ≡ 10
  pub untouched : with_node sheet_a 2 0 (node (pos 4096) (pos 0) (pos 0)) ≡ sheet_a
  -- readings and runs on its 3 × 3 pixels
  pub kind_three : reading_refusal sheet_a 0 0 3 ≡ 9
  pub outside_first : reading_refusal sheet_a 3 0 3 ≡ 7
  pub whole_row : run_refusal sheet_a 0 0 3 ≡ 0
  pub one_too_many : run_refusal sheet_a 0 0 4 ≡ 7
  pub no_pixel : run_refusal sheet_a 0 0 0 ≡ 8
  pub no_pixel_outside : run_refusal sheet_a 3 0 0 ≡ 7
  -- the third column and no third row
  pub third_column : lookup_refusal oblong 2 1 ≡ 0
  pub third_row : lookup_refusal oblong 1 2 ≡ 10
  -- the pixels on its outer lines, and those just outside
  pub left_top : reading_refusal oblong 4000 5 0 ≡ 0
  pub right_bottom : reading_refusal oblong 4096 9 2 ≡ 0
  pub left_of : reading_refusal oblong 3999 5 0 ≡ 7
  pub above : reading_refusal oblong 4000 4 0 ≡ 7
  pub below : reading_refusal oblong 4096 10 0 ≡ 7
  pub far_kind : reading_refusal oblong 4096 9 4294967295 ≡ 9
  -- runs to the last line, beyond it, and from outside
  pub to_the_end : run_refusal oblong 4090 9 7 ≡ 0
  pub beyond : run_refusal oblong 4090 9 8 ≡ 7
  pub from_outside : run_refusal oblong 3999 5 2 ≡ 7
  -- no sum wraps: 2³² pixels to the right is not the pixel before
  pub very_long : run_refusal oblong 4001 9 4294967296 ≡ 7
