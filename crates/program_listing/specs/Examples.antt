-- What the program `levels` prints for 01's sheet A, and for a sheet that is refused, computed on the definitions. Assumes nothing.
use Rattle.std.specs.Prelude.{ℕ, ◌≡◌, List, [], ◌∷◌, ◌++◌, set, replicate}
use Rattle.sheet_layout.specs.Examples.{sheet_a}
use Rattle.program_text.specs.Text.{digit}
use Rattle.program_listing.specs.Listing.{printed}

-- 01 has it whole
abbrev pub printed_a : List ℕ
printed_a =
    -- 0 0 64 0 0
    (48 ∷ 32 ∷ 48 ∷ 32 ∷ 54 ∷ 52 ∷ 32 ∷ 48 ∷ 32 ∷ 48 ∷ 10 ∷ []) ++
    -- 1 0 32 -48 0
    (49 ∷ 32 ∷ 48 ∷ 32 ∷ 51 ∷ 50 ∷ 32 ∷ 45 ∷ 52 ∷ 56 ∷ 32 ∷ 48 ∷ 10 ∷ []) ++
    -- 2 0 0 0 0
    (50 ∷ 32 ∷ 48 ∷ 32 ∷ 48 ∷ 32 ∷ 48 ∷ 32 ∷ 48 ∷ 10 ∷ []) ++
    -- 0 1 32 0 -48
    (48 ∷ 32 ∷ 49 ∷ 32 ∷ 51 ∷ 50 ∷ 32 ∷ 48 ∷ 32 ∷ 45 ∷ 52 ∷ 56 ∷ 10 ∷ []) ++
    -- 1 1 16 -24 -24
    (49 ∷ 32 ∷ 49 ∷ 32 ∷ 49 ∷ 54 ∷ 32 ∷ 45 ∷ 50 ∷ 52 ∷ 32 ∷ 45 ∷ 50 ∷ 52 ∷ 10 ∷ []) ++
    -- 2 1 0 0 0
    (50 ∷ 32 ∷ 49 ∷ 32 ∷ 48 ∷ 32 ∷ 48 ∷ 32 ∷ 48 ∷ 10 ∷ []) ++
    -- 0 2 0 0 0
    (48 ∷ 32 ∷ 50 ∷ 32 ∷ 48 ∷ 32 ∷ 48 ∷ 32 ∷ 48 ∷ 10 ∷ []) ++
    -- 1 2 0 0 0
    (49 ∷ 32 ∷ 50 ∷ 32 ∷ 48 ∷ 32 ∷ 48 ∷ 32 ∷ 48 ∷ 10 ∷ []) ++
    -- 2 2 0 0 0
    (50 ∷ 32 ∷ 50 ∷ 32 ∷ 48 ∷ 32 ∷ 48 ∷ 32 ∷ 48 ∷ 10 ∷ [])

-- vertical lines 5, 6 and 7, horizontal lines 3, 4 and 5, all numbers 0
abbrev pub three_lines : List ℕ
three_lines = (0x4C ∷ 0x56 ∷ 0x53 ∷ 1 ∷ 0 ∷ 3 ∷ 3 ∷ 0 ∷ []) ++ (5 ∷ 0 ∷ 6 ∷ 0 ∷ 7 ∷ 0 ∷ 3 ∷ 0 ∷ 4 ∷ 0 ∷ 5 ∷ 0 ∷ []) ++ replicate 54 0

-- "x y 0 0 0", of one digit each
abbrev pub zero_line : ℕ → ℕ → List ℕ
zero_line x y = digit x ∷ 32 ∷ digit y ∷ 32 ∷ 48 ∷ 32 ∷ 48 ∷ 32 ∷ 48 ∷ 10 ∷ []

pub record Examples : Type 0 where
  -- a mesh of three lines each way that does not start at 0
  pub three : printed three_lines ≡
      zero_line 5 3 ++ zero_line 6 3 ++ zero_line 7 3 ++ zero_line 5 4 ++ zero_line 6 4 ++ zero_line 7 4 ++ zero_line 5 5 ++ zero_line 6 5 ++ zero_line 7 5
  pub sheet : printed sheet_a ≡ printed_a
  -- version 2 is refused with 2, and no bytes with 1
  pub version : printed (set sheet_a 3 2) ≡ 114 ∷ 101 ∷ 102 ∷ 117 ∷ 115 ∷ 101 ∷ 100 ∷ 32 ∷ 50 ∷ 10 ∷ []
  pub nothing : printed [] ≡ 114 ∷ 101 ∷ 102 ∷ 117 ∷ 115 ∷ 101 ∷ 100 ∷ 32 ∷ 49 ∷ 10 ∷ []
