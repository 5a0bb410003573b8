-- Nodes of an oblong sheet and of an uneven one: their outermost lines, and what the program answers, computed on the definitions; and inputs that
-- are refused. Assumes nothing.
use Rattle.std.specs.Prelude.{ℕ, ◌≡◌, List, [], ◌∷◌, ◌++◌, map, set}
use Rattle.sheet_layout.specs.Examples.{sheet_a, oblong}
use Rattle.sheet_layout.specs.UnevenMesh.{uneven_mesh}
use Rattle.sheet_reach.specs.Reach.{Outermost, outermost, ReachAnswer, reach_answer}

abbrev pub lines : ℕ → ℕ → ℕ → ℕ → Outermost
lines left top right bottom = record { left = left; top = top; right = right; bottom = bottom }

-- what is read, and what the program answers
pub record Example : Type 0 where
  pub input : List ℕ
  pub gives : ReachAnswer

infix 10 ◌refused◌
abbrev pub ◌refused◌ : List ℕ → ℕ → Example
input refused n = record { input = input; gives = record { number = n; positions = [] } }

-- a column and a row behind the uneven sheet, and their lines, or a refusal
abbrev pub at : ℕ → ℕ → List ℕ → Example
at i j positions = record { input = uneven_mesh ++ i ∷ j ∷ []; gives = record { number = 0; positions = positions } }

abbrev pub missing : ℕ → ℕ → Example
missing i j = uneven_mesh ++ i ∷ j ∷ [] refused 10

abbrev pub answers : List Example
answers =
    -- two opposite corners and the middle; another corner; the middle of an outer line
    at 0 0 (3 ∷ 0 ∷ 7 ∷ 6 ∷ []) ∷
    at 1 1 (3 ∷ 0 ∷ 15 ∷ 8 ∷ []) ∷
    at 2 2 (7 ∷ 6 ∷ 15 ∷ 8 ∷ []) ∷
    at 0 2 (3 ∷ 6 ∷ 7 ∷ 8 ∷ []) ∷
    at 2 1 (7 ∷ 0 ∷ 15 ∷ 8 ∷ []) ∷
    -- columns and rows that it does not have
    missing 3 0 ∷
    missing 0 3 ∷
    missing 255 255 ∷
    -- no byte, one, and two
    ([] refused 1) ∷
    (0x4C ∷ [] refused 1) ∷
    (0x4C ∷ 0x56 ∷ [] refused 1) ∷
    -- version 2, and no such column: the sheet first
    (set sheet_a 3 2 ++ 9 ∷ 0 ∷ [] refused 2) ∷
    []

pub record Examples : Type 0 where
  -- the middle of the upper line touches both cells; the corners one each
  pub middle : outermost oblong 1 0 ≡ lines 4000 5 4096 9
  pub left_below : outermost oblong 0 1 ≡ lines 4000 5 4050 9
  pub right_above : outermost oblong 2 0 ≡ lines 4050 5 4096 9
  pub answered : map (λ e. reach_answer e.input) answers ≡ map (λ e. e.gives) answers
