-- The program's input and refusals, and the lines that it answers: they are the outermost ones of the cells that touch the node. Assumes nothing.
use Rattle.std.specs.Prelude.{ℕ, suc, ◌≤◌, ◌<◌, ◌≡◌, ◌↔◌, List, [], ◌∷◌, ◌++◌, map, false, length, take}
use Rattle.sheet_layout.specs.Format.{columns, rows, line_x, line_y}
use Rattle.sheet_calls.specs.Refusals.{lookup_refusal, Accepted}
use Rattle.sheet_reach.specs.Reach.{TouchesNode, outermost, WithinLines, sheet_in, column_in, row_in, too_short, reach_rules, reach_refusal, reach_answer}

-- the sheet has the cell in column a and row b, and it touches the node in column i and row j
pub record Touched (s : List ℕ) (i j a b : ℕ) : Type 0 where
  pub column : suc a < columns s
  pub row : suc b < rows s
  pub touches : TouchesNode a b i j

-- some touched cell starts at the line on the left and at that on the top, and some ends at that on the right and at that on the bottom
pub record Attained (s : List ℕ) (i j : ℕ) : Type 0 where
  pub first_column : ℕ
  pub first_row : ℕ
  pub last_column : ℕ
  pub last_row : ℕ
  pub first : Touched s i j first_column first_row
  pub last : Touched s i j last_column last_row
  pub left : (outermost s i j).left ≡ line_x s first_column
  pub top : (outermost s i j).top ≡ line_y s first_row
  pub right : (outermost s i j).right ≡ line_x s (suc last_column)
  pub bottom : (outermost s i j).bottom ≡ line_y s (suc last_row)

pub record ReachLaws : Type 0 where
  -- a sheet with a column byte and a row byte behind it is taken apart into these, and two bytes or more are such
  pub parts : (s : List ℕ) (i j : ℕ) → let input = s ++ i ∷ j ∷ [] in (sheet_in input ≡ s) × (column_in input ≡ i) × (row_in input ≡ j)
  pub together : (input : List ℕ) → 2 ≤ length input → sheet_in input ++ column_in input ∷ row_in input ∷ [] ≡ input
  -- the numbers that are looked at, in order: 1 for fewer than two bytes, then those of looking up the node
  pub numbers : map (λ r. r.number) reach_rules ≡ 1 ∷ 1 ∷ 2 ∷ 3 ∷ 4 ∷ 5 ∷ 6 ∷ 10 ∷ []
  pub one : (input : List ℕ) → (too_short input ≡ false) ↔ (2 ≤ length input)
  pub short : (input : List ℕ) → length input < 2 → reach_refusal input ≡ 1
  pub lookup : (input : List ℕ) → 2 ≤ length input → reach_refusal input ≡ lookup_refusal (sheet_in input) (column_in input) (row_in input)
  -- an accepted sheet with the bytes of a node that it has is answered by the four lines, and what is refused by its number alone
  pub answered : (s : List ℕ) (i j : ℕ) → Accepted s → i < columns s → j < rows s → let o = outermost s i j in
      reach_answer (s ++ i ∷ j ∷ []) ≡ record { number = 0; positions = o.left ∷ o.top ∷ o.right ∷ o.bottom ∷ [] }
  pub refused : (input : List ℕ) → ¬ (reach_refusal input ≡ 0) → reach_answer input ≡ record { number = reach_refusal input; positions = [] }
  -- a cell of the sheet touches the node exactly when it lies between the lines; and they are lines of such cells
  pub between : (s : List ℕ) (i j a b : ℕ) → Accepted s → i < columns s → j < rows s → suc a < columns s → suc b < rows s →
      TouchesNode a b i j ↔ WithinLines s i j a b
  pub attained : (s : List ℕ) (i j : ℕ) → Accepted s → i < columns s → j < rows s → Attained s i j
  -- the first n bytes of an input say the answer, for every n from 25,621 on
  pub cut : (input : List ℕ) (n : ℕ) → 25620 < n → reach_answer (take n input) ≡ reach_answer input
