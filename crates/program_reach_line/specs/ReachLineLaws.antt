-- What is proved of the line: what it says, and that enough of the input is read; and examples, computed on the definitions. Assumes nothing.
use Rattle.std.specs.Prelude.{ℕ, ◌<◌, ◌≡◌, List, [], ◌∷◌, ◌++◌, pos, take}
use Rattle.sheet_layout.specs.Format.{columns, rows}
use Rattle.sheet_layout.specs.UnevenMesh.{uneven_mesh}
use Rattle.sheet_calls.specs.Refusals.{Accepted}
use Rattle.sheet_reach.specs.Reach.{outermost, reach_refusal}
use Rattle.program_text.specs.Text.{line, refused_line}
use Rattle.program_reach_line.specs.ReachLine.{printed, input_room}

-- a column and a row behind the uneven sheet, which has the vertical lines 3, 7 and 15 and the horizontal ones 0, 6 and 8
abbrev pub at : ℕ → ℕ → List ℕ
at column row = uneven_mesh ++ column ∷ row ∷ []

pub record ReachLineLaws : Type 0 where
  -- "[…] prints one line, decimal with one blank between: the positions of the touched cells' left, top, right and bottom outermost lines."
  pub lines : (s : List ℕ) (i j : ℕ) → Accepted s → i < columns s → j < rows s → let o = outermost s i j in
      printed (s ++ i ∷ j ∷ []) ≡ line (pos o.left ∷ pos o.top ∷ pos o.right ∷ pos o.bottom ∷ [])
  -- refused, the line of the refusal
  pub refused : (input : List ℕ) → ¬ (reach_refusal input ≡ 0) → printed input ≡ refused_line (reach_refusal input)
  -- what stands in the input behind the bytes that are read changes nothing
  pub read : (input : List ℕ) → printed (take input_room input) ≡ printed input
  -- the middle node prints "3 0 15 8", the first "3 0 7 6"
  pub middle : printed (at 1 1) ≡ 51 ∷ 32 ∷ 48 ∷ 32 ∷ 49 ∷ 53 ∷ 32 ∷ 56 ∷ 10 ∷ []
  pub first : printed (at 0 0) ≡ 51 ∷ 32 ∷ 48 ∷ 32 ∷ 55 ∷ 32 ∷ 54 ∷ 10 ∷ []
  -- a column that is not there "refused 10", no bytes "refused 1"
  pub column : printed (at 3 0) ≡ 114 ∷ 101 ∷ 102 ∷ 117 ∷ 115 ∷ 101 ∷ 100 ∷ 32 ∷ 49 ∷ 48 ∷ 10 ∷ []
  pub nothing : printed [] ≡ 114 ∷ 101 ∷ 102 ∷ 117 ∷ 115 ∷ 101 ∷ 100 ∷ 32 ∷ 49 ∷ 10 ∷ []
