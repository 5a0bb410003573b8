-- Slopes filled on small sheets, computed on the definitions. Assumes nothing.
use Rattle.std.specs.Prelude.{ℕ, ◌≡◌, List, [], ◌∷◌, ◌++◌, pos, negsuc, set}
use Rattle.sheet_layout.specs.Format.{slope_x_at, slope_y_at}
use Rattle.sheet_layout.specs.Examples.{header, flat, sheet_a, oblong}
use Rattle.sheet_slopes.specs.Slopes.{filled_x, filled_y, slope_refusal, with_slopes}

-- the sheet of docs/FORMAT.md: the vertical lines at 1, 3 and 6, the horizontal ones at 2 and 6; heights 1, 4, 2 and 4, 1, 2
abbrev pub worked : List ℕ
worked =
    (0x4C ∷ 0x56 ∷ 0x53 ∷ 1 ∷ 0 ∷ 3 ∷ 2 ∷ 0 ∷ []) ++ (1 ∷ 0 ∷ 3 ∷ 0 ∷ 6 ∷ 0 ∷ 2 ∷ 0 ∷ 6 ∷ 0 ∷ []) ++
    flat 1 0 ++ flat 4 0 ++ flat 2 0 ++ flat 4 0 ++ flat 1 0 ++ flat 2 0

-- 2 columns, x apart, and 2 rows, 1 apart; the left nodes have one height, the right ones another
abbrev pub pair : ℕ → List ℕ → List ℕ → List ℕ
pair x left right = header ++ (0 ∷ 0 ∷ x ∷ 0 ∷ 0 ∷ 0 ∷ 1 ∷ 0 ∷ []) ++ left ++ right ++ left ++ right

-- from −32 to 33 steps, from 33 to −32, from −3,071 to 3,072 and from −558 to 559
abbrev pub up65 : ℕ → List ℕ
up65 x = pair x (flat 0xE0 0xFF) (flat 33 0)

abbrev pub down65 : ℕ → List ℕ
down65 x = pair x (flat 33 0) (flat 0xE0 0xFF)

abbrev pub up6143 : ℕ → List ℕ
up6143 x = pair x (flat 0x01 0xF4) (flat 0x00 0x0C)

abbrev pub up1117 : ℕ → List ℕ
up1117 x = pair x (flat 0xD2 0xFD) (flat 0x2F 0x02)

pub record Examples : Type 0 where
  -- with stiffness 7 the first node of the top row has 7 × 3 / 2, a tie, which goes up to 11; the inner one 7 × 1 / 5; the last −7 × 2 / 3
  pub first_node : filled_x worked 7 0 0 ≡ pos 11
  pub inner_node : filled_x worked 7 1 0 ≡ pos 1
  pub last_node : filled_x worked 7 2 0 ≡ negsuc 4
  -- −7 × 3 / 2, a tie, goes up to −10
  pub negative_tie : filled_x worked 7 0 1 ≡ negsuc 9
  -- along y: 7 × 3 / 4 and −7 × 3 / 4, from either end; equal heights
  pub top : filled_y worked 7 0 0 ≡ pos 5
  pub bottom : filled_y worked 7 1 1 ≡ negsuc 4
  pub level : filled_y worked 7 2 1 ≡ pos 0
  -- with the greatest stiffness 64 × 3 / 2, 64 × 1 / 5, −64 × 2 / 3
  pub stiff_first : filled_x worked 64 0 0 ≡ pos 96
  pub stiff_inner : filled_x worked 64 1 0 ≡ pos 13
  pub stiff_last : filled_x worked 64 2 0 ≡ negsuc 42
  -- the whole sheet, node by node: −3 is FD FF, −5 is FB FF, −10 is F6 FF
  pub filled : with_slopes worked 7 ≡
      (0x4C ∷ 0x56 ∷ 0x53 ∷ 1 ∷ 0 ∷ 3 ∷ 2 ∷ 0 ∷ []) ++ (1 ∷ 0 ∷ 3 ∷ 0 ∷ 6 ∷ 0 ∷ 2 ∷ 0 ∷ 6 ∷ 0 ∷ []) ++
      (1 ∷ 0 ∷ 0x0B ∷ 0 ∷ 5 ∷ 0 ∷ []) ++ (4 ∷ 0 ∷ 1 ∷ 0 ∷ 0xFB ∷ 0xFF ∷ []) ++ (2 ∷ 0 ∷ 0xFB ∷ 0xFF ∷ 0 ∷ 0 ∷ []) ++
      (4 ∷ 0 ∷ 0xF6 ∷ 0xFF ∷ 5 ∷ 0 ∷ []) ++ (1 ∷ 0 ∷ 0xFD ∷ 0xFF ∷ 0xFB ∷ 0xFF ∷ []) ++ (2 ∷ 0 ∷ 2 ∷ 0 ∷ 0 ∷ 0 ∷ [])
  -- old slopes are written over; stiffness 0 leaves none
  pub old_gone : slope_x_at (with_slopes oblong 0) 2 1 ≡ pos 0
  pub old_gone_too : slope_y_at (with_slopes oblong 0) 2 1 ≡ pos 0
  -- 65 steps over 1 pixel: 63 × 65 is 4,095, and 64 × 65 is too steep, up and down; 65 is too stiff, whatever the slopes
  pub steepest : slope_refusal (up65 1) 63 ≡ 0
  pub steepest_down : slope_refusal (down65 1) 63 ≡ 0
  pub too_steep_up : slope_refusal (up65 1) 64 ≡ 13
  pub too_steep_down : slope_refusal (down65 1) 64 ≡ 13
  pub stiffness_first : slope_refusal (up65 1) 65 ≡ 12
  pub stiffest : slope_refusal sheet_a 64 ≡ 0
  pub far_too_stiff : slope_refusal sheet_a 4294967295 ≡ 12
  -- over 3 pixels 2 × 6,143 is 4,095⅓ per pixel, which is in range once it is rounded, and 11 × 1,117 is 4,095⅔, which is not
  pub rounded_first : slope_refusal (up6143 3) 2 ≡ 0
  pub rounded_out : slope_refusal (up1117 3) 11 ≡ 13
  -- what is refused stays; an old slope of 4,096 is refused with 6, however stiff
  pub untouched : with_slopes (up65 1) 64 ≡ up65 1
  pub old_slope : slope_refusal (set (set oblong 50 0) 51 16) 65 ≡ 6
