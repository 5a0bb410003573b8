-- When a call is refused (01, "When the server declines"): the numbered conditions, which calls share, and each call's own rules made of them. A condition tests
-- what its own line of 01 speaks of and presupposes none of the others. Assumes nothing.
use Rattle.std.specs.Prelude.{ℕ, zero, suc, ◌+◌, ◌-◌, ◌≡◌, List, [], ◌∷◌, ◌++◌, map, Bool, false, not, ◌&&◌, ◌||◌, length, ltb, leb, eqb}
use Rattle.sheet_layout.specs.Some.{some}
use Rattle.sheet_layout.specs.Format.{header_size, marked, version, supported, columns, rows, count_in, reserved, line_x, line_y, furthest, widest, Node, node_in, stated_size, some_node_out}
use Rattle.sheet_calls.specs.Rules.{Rule, rule, first_refusal}

-- ---- the conditions, by their numbers

-- 1: fewer than 8 bytes, or another mark
unfoldable pub other_mark : List ℕ → Bool
other_mark s = ltb (length s) header_size || not (marked s)

-- 2: version is not 1
unfoldable pub other_version : List ℕ → Bool
other_version s = not (supported (version s))

-- 3: m or n outside 2 to 65, or byte 7 is not 0
unfoldable pub other_counts : List ℕ → Bool
other_counts s = not (count_in (columns s)) || not (count_in (rows s)) || not (eqb (reserved s) 0)

-- 4: length is not the one stated
unfoldable pub other_length : List ℕ → Bool
other_length s = not (eqb (length s) (stated_size s))

-- a line exceeds 4,096, does not rise above the one before it, or rises by more than 64
unfoldable pub wrong_step : ℕ → ℕ → Bool
wrong_step before position = ltb furthest position || leb position before || ltb (before + widest) position

-- line k of an axis is wrong; the first has no line to rise from
unfoldable pub wrong_line : (ℕ → ℕ) → ℕ → Bool
wrong_line line zero = ltb furthest (line zero)
wrong_line line (suc k) = wrong_step (line k) (line (suc k))

-- 5: a line does not rise, rises by more than 64, or exceeds 4,096
unfoldable pub wrong_lines : List ℕ → Bool
wrong_lines s = some (wrong_line (line_x s)) (columns s) || some (wrong_line (line_y s)) (rows s)

-- 6: a height or slope outside −4,095 to 4,095
unfoldable pub wrong_nodes : List ℕ → Bool
wrong_nodes s = some_node_out s

-- 7, of a reading: a pixel left of the mesh's first line, right of its last, above or below it
unfoldable pub outside : List ℕ → ℕ → ℕ → Bool
outside s x y = ltb x (line_x s 0) || ltb (line_x s (columns s - 1)) x || ltb y (line_y s 0) || ltb (line_y s (rows s - 1)) y

-- 7, of a run: a pixel outside the mesh; where the run is not empty, also its last pixel
unfoldable pub off_mesh : List ℕ → ℕ → ℕ → ℕ → Bool
off_mesh s x y count = outside s x y || (not (eqb count 0) && outside s (x + count - 1) y)

-- 8: an empty run
unfoldable pub empty_run : ℕ → Bool
empty_run count = eqb count 0

-- 9: reading kind above 2
unfoldable pub other_kind : ℕ → Bool
other_kind kind = ltb 2 kind

-- 10: no such column or row
unfoldable pub no_node : List ℕ → ℕ → ℕ → Bool
no_node s i j = leb (columns s) i || leb (rows s) j

-- 11: a new height or slope outside −4,095 to 4,095
unfoldable pub wrong_numbers : Node → Bool
wrong_numbers v = not (node_in v)

-- ---- a sheet by itself

-- a sheet is accepted when none of the conditions 1 to 6 holds
pub record Accepted (s : List ℕ) : Type 0 where
  pub one : other_mark s ≡ false
  pub two : other_version s ≡ false
  pub three : other_counts s ≡ false
  pub four : other_length s ≡ false
  pub five : wrong_lines s ≡ false
  pub six : wrong_nodes s ≡ false

-- the rules of the six, for a call with a sheet in its input
unfoldable pub sheet_rules : {Input : Type 0} → (Input → List ℕ) → List (Rule Input)
sheet_rules sheet =
    rule 1 (λ u. other_mark (sheet u)) ∷
    rule 2 (λ u. other_version (sheet u)) ∷
    rule 3 (λ u. other_counts (sheet u)) ∷
    rule 4 (λ u. other_length (sheet u)) ∷
    rule 5 (λ u. wrong_lines (sheet u)) ∷
    rule 6 (λ u. wrong_nodes (sheet u)) ∷
    []

-- the number of the first of the six that holds, or 0: what a call asks that takes a sheet with nodes of heights and slopes
unfoldable pub sheet_refusal : List ℕ → ℕ
sheet_refusal s = first_refusal (sheet_rules (λ s. s)) s

-- ---- each call: what it is given, its rules in the order of looking, and the number that refuses it, or 0

-- checking
unfoldable pub check_rules : List (Rule (List ℕ))
check_rules = sheet_rules (λ s. s)

unfoldable pub check_refusal : List ℕ → ℕ
check_refusal s = first_refusal check_rules s

-- looking up a node
pub record LookupInput : Type 0 where
  pub sheet : List ℕ
  pub column : ℕ
  pub row : ℕ

unfoldable pub lookup_rules : List (Rule LookupInput)
lookup_rules = sheet_rules (λ u. u.sheet) ++ rule 10 (λ u. no_node u.sheet u.column u.row) ∷ []

unfoldable pub lookup_refusal : List ℕ → ℕ → ℕ → ℕ
lookup_refusal s i j = first_refusal lookup_rules (record { sheet = s; column = i; row = j })

-- setting a node to new numbers
pub record SettingInput : Type 0 where
  pub sheet : List ℕ
  pub column : ℕ
  pub row : ℕ
  pub numbers : Node

unfoldable pub setting_rules : List (Rule SettingInput)
setting_rules = sheet_rules (λ u. u.sheet) ++ rule 10 (λ u. no_node u.sheet u.column u.row) ∷ rule 11 (λ u. wrong_numbers u.numbers) ∷ []

unfoldable pub setting_refusal : List ℕ → ℕ → ℕ → Node → ℕ
setting_refusal s i j v = first_refusal setting_rules (record { sheet = s; column = i; row = j; numbers = v })

-- reading at a pixel
pub record ReadingInput : Type 0 where
  pub sheet : List ℕ
  pub x : ℕ
  pub y : ℕ
  pub kind : ℕ

unfoldable pub reading_rules : List (Rule ReadingInput)
reading_rules = sheet_rules (λ u. u.sheet) ++ rule 7 (λ u. outside u.sheet u.x u.y) ∷ rule 9 (λ u. other_kind u.kind) ∷ []

unfoldable pub reading_refusal : List ℕ → ℕ → ℕ → ℕ → ℕ
reading_refusal s x y kind = first_refusal reading_rules (record { sheet = s; x = x; y = y; kind = kind })

-- a run of count pixels
pub record RunInput : Type 0 where
  pub sheet : List ℕ
  pub x : ℕ
  pub y : ℕ
  pub count : ℕ

unfoldable pub run_rules : List (Rule RunInput)
run_rules = sheet_rules (λ u. u.sheet) ++ rule 7 (λ u. off_mesh u.sheet u.x u.y u.count) ∷ rule 8 (λ u. empty_run u.count) ∷ []

unfoldable pub run_refusal : List ℕ → ℕ → ℕ → ℕ → ℕ
run_refusal s x y count = first_refusal run_rules (record { sheet = s; x = x; y = y; count = count })

-- ---- the numbers that each call looks at, in order: 01's table by calls

pub record CallNumbers : Type 0 where
  pub check : map (λ r. r.number) check_rules ≡ 1 ∷ 2 ∷ 3 ∷ 4 ∷ 5 ∷ 6 ∷ []
  pub lookup : map (λ r. r.number) lookup_rules ≡ 1 ∷ 2 ∷ 3 ∷ 4 ∷ 5 ∷ 6 ∷ 10 ∷ []
  pub setting : map (λ r. r.number) setting_rules ≡ 1 ∷ 2 ∷ 3 ∷ 4 ∷ 5 ∷ 6 ∷ 10 ∷ 11 ∷ []
  pub reading : map (λ r. r.number) reading_rules ≡ 1 ∷ 2 ∷ 3 ∷ 4 ∷ 5 ∷ 6 ∷ 7 ∷ 9 ∷ []
  pub run : map (λ r. r.number) run_rules ≡ 1 ∷ 2 ∷ 3 ∷ 4 ∷ 5 ∷ 6 ∷ 7 ∷ 8 ∷ []
