-- How far one node reaches (02, #105): the cells that touch it and their outermost lines; and what the program `reach` answers for all the bytes that it has
-- read. Assumes nothing.
use Rattle.std.specs.Prelude.{ℕ, suc, ◌-◌, ◌≤◌, ◌≡◌, ◌⊎◌, List, [], ◌∷◌, ◌++◌, Bool, cond, ltb, eqb, length, take, Result, Ok, Err}
use Rattle.sheet_words.specs.Word.{byte_at}
use Rattle.sheet_layout.specs.Format.{columns, rows, line_x, line_y}
use Rattle.sheet_layout.specs.Neighbours.{previous, next}
use Rattle.sheet_calls.specs.Rules.{Rule, rule, first_refusal}
use Rattle.sheet_calls.specs.Refusals.{no_node, sheet_rules}
use Rattle.sheet_calls.specs.declared.refusal.Refusal.{Refusal}
use Rattle.sheet_calls.specs.Refused.{number}
use Rattle.sheet_reach.specs.declared.OuterLines.{OuterLines}

-- ---- the cells that touch a node

-- line k is one of the lines a and a + 1 of cell a
abbrev pub AtLine : ℕ → ℕ → Type 0
AtLine a k = (k ≡ a) ⊎ (k ≡ suc a)

-- the cell in column a and row b, which lies between the lines a and a + 1, b and b + 1, touches the node in column i and row j: the node is one of its corners
pub record TouchesNode (a b i j : ℕ) : Type 0 where
  pub column : AtLine a i
  pub row : AtLine b j

-- the positions of the touched cells' left, top, right and bottom outermost lines: the lines before the node's and those after them. On the first line no cell
-- lies before it, on the last none behind it, and the line itself is outermost
pub record Outermost : Type 0 where
  pub left : ℕ
  pub top : ℕ
  pub right : ℕ
  pub bottom : ℕ

unfoldable pub outermost : List ℕ → ℕ → ℕ → Outermost
outermost s i j = record {
  left = line_x s (previous i);
  top = line_y s (previous j);
  right = line_x s (next (columns s) i);
  bottom = line_y s (next (rows s) j);
}

-- the cell in column a and row b lies between these lines
pub record WithinLines (s : List ℕ) (i j a b : ℕ) : Type 0 where
  pub left : (outermost s i j).left ≤ line_x s a
  pub top : (outermost s i j).top ≤ line_y s b
  pub right : line_x s (suc a) ≤ (outermost s i j).right
  pub bottom : line_y s (suc b) ≤ (outermost s i j).bottom

-- ---- what the program reads: a sheet, then a column byte and a row byte. Of all bytes read the last two are always column and row

abbrev pub sheet_in : List ℕ → List ℕ
sheet_in input = take (length input - 2) input

abbrev pub column_in : List ℕ → ℕ
column_in input = byte_at input (length input - 2)

abbrev pub row_in : List ℕ → ℕ
row_in input = byte_at input (length input - 1)

-- ---- when it is refused

-- 1, before all else: fewer than two bytes
unfoldable pub too_short : List ℕ → Bool
too_short input = ltb (length input) 2

-- then 1 to 6 of the sheet, then 10: no such column or row
unfoldable pub reach_rules : List (Rule (List ℕ))
reach_rules = rule 1 too_short ∷ sheet_rules sheet_in ++ rule 10 (λ u. no_node (sheet_in u) (column_in u) (row_in u)) ∷ []

unfoldable pub reach_refusal : List ℕ → ℕ
reach_refusal input = first_refusal reach_rules input

-- ---- what it answers

-- the refusal's number, or 0, and the four positions, left, top, right, bottom; refused, none
pub record ReachAnswer : Type 0 where
  pub number : ℕ
  pub positions : List ℕ

unfoldable pub told : Result OuterLines Refusal → ReachAnswer
told (Ok lines) = record { number = 0; positions = lines.left ∷ lines.top ∷ lines.right ∷ lines.bottom ∷ [] }
told (Err refusal) = record { number = number refusal; positions = [] }

unfoldable pub reach_answer : List ℕ → ReachAnswer
reach_answer input =
    let n = reach_refusal input in let o = outermost (sheet_in input) (column_in input) (row_in input) in
    cond (eqb n 0) (record { number = 0; positions = o.left ∷ o.top ∷ o.right ∷ o.bottom ∷ [] }) (record { number = n; positions = [] })
