-- 02's request #105, "How far one node reaches", sentence by sentence: of what readings give and runs leave on two sheets that differ in one height, and of
-- what the worker of the program `reach` gives. Assumes nothing.
use Rattle.std.specs.Prelude.{ℕ, ◌+◌, ◌*◌, ◌≤◌, ◌<◌, ◌≡◌, ◌↔◌, List, [], ◌∷◌, ◌++◌, false, ℤ, pos, nat_abs, ◌+ℤ◌, ◌-ℤ◌, ◌*ℤ◌, ◌≤ℤ◌, length, get_or, take, Result, Ok}
use Rattle.integers.specs.Within.{◌within◌}
use Rattle.element_sibson.specs.Cubic.{◌≋◌}
use Rattle.element_reach.specs.Follows.{Follows}
use Rattle.sheet_layout.specs.Format.{columns, rows, line_x, line_y, node, node_at}
use Rattle.sheet_calls.specs.Rules.{Rule, rule}
use Rattle.sheet_calls.specs.Refusals.{no_node, Accepted}
use Rattle.sheet_calls.specs.WellFormed.{Inside}
use Rattle.sheet_reach.specs.Reach.{TouchesNode, outermost, WithinLines, sheet_in, column_in, row_in, too_short, told}
use Rattle.sheet_reach.specs.ReachLaws.{Attained}
use Rattle.sheet_reach.specs.declared.OuterLines.{OuterLines}
use Rattle.sheet_calls.specs.declared.refusal.Refusal.{Refusal}
use Rattle.sheet_calls.specs.Refused.{RefusedWith}
use Rattle.surface_answers.specs.Answers.{outcome}
use Rattle.surface_answers.specs.declared.Answer.{Answer}
use Rattle.surface_of_sheet.specs.Place.{HasCell, Place}
use Rattle.surface_of_sheet.specs.Surface.{set_of}
use Rattle.surface_of_sheet.specs.Touching.{Touches}
use Rattle.surface_reach.specs.Nudged.{NudgedSheet, Beside, WithinReach}
use Rattle.light_sheet_demands.specs.CallRecords.{SetNode, Read, FillRun, ReachOf}
use Rattle.light_sheet_demands.specs.Demands.{Gives, of_sheet, place_jet, GivesLevel}

-- ---- a nudged node

-- where a height changes by d steps, a level goes from k to l: never against the sign of d, and by at most 64 × |d| grains
pub record FollowsSteps (d k l : ℤ) : Type 0 where
  pub up : pos 0 ≤ℤ d → k ≤ℤ l
  pub down : d ≤ℤ pos 0 → l ≤ℤ k
  pub most : (l -ℤ k) within (64 * nat_abs d)

-- what is shown of s and t, where the height of the node in column i and row j is δ grains higher in t
pub record NudgedNode (s : List ℕ) (i j : ℕ) (δ : ℤ) (t : List ℕ) : Type 0 where
  -- "Show that a level changes only in cells touching that node,": other cells have the same four cubics
  pub other_cells : (a b : ℕ) → HasCell s a b → ¬ TouchesNode a b i j → set_of t a b ≡ set_of s a b
  -- outside the cells that touch it, and on their sides that do not run through it, the exact height and slopes are the same, whichever cell and piece they
  -- are taken from; so readings give the same level, and the same tilt, and runs leave the same level
  pub exact : {x y : ℕ} → Beside s i j x y → (p : Place) → Touches s p x y → place_jet t p ≋ place_jet s p
  pub readings : {u v : List ℕ} {x y kind : ℕ} {q r : Answer} → Beside s i j x y → kind ≤ 1 → Read s x y kind q u → Read t x y kind r v →
      outcome r ≡ outcome q
  pub runs : {u v : List ℕ} {x y : ℕ} {q q' r r' : List ℤ} → FillRun s x y q 0 q' u → FillRun t x y r 0 r' v → (k : ℕ) → k < length q → k < length r →
      Beside s i j (x + k) y → get_or r' k (pos 0) ≡ get_or q' k (pos 0)
  -- a pixel whose level changes lies between the lines that the program prints, and on one of them only where that runs through the node
  pub read_changed : {u v : List ℕ} {x y : ℕ} {q r : Answer} {k l : ℤ} → Read s x y 0 q u → Read t x y 0 r v → GivesLevel q k → GivesLevel r l → ¬ (l ≡ k) →
      WithinReach s i j x y
  pub run_changed : {u v : List ℕ} {x y : ℕ} {q q' r r' : List ℤ} → FillRun s x y q 0 q' u → FillRun t x y r 0 r' v → (k : ℕ) → k < length q → k < length r →
      ¬ (get_or r' k (pos 0) ≡ get_or q' k (pos 0)) → WithinReach s i j (x + k) y
  -- never against the sign of δ, and by at most |δ| grains. Of readings, which both give a level at every pixel of the mesh, and of runs; that none of these
  -- is refused along the mesh, `DemandThree.reached` says
  pub read_levels : {u v : List ℕ} {x y : ℕ} {q r : Answer} {k l : ℤ} → Read s x y 0 q u → Read t x y 0 r v → GivesLevel q k → GivesLevel r l → Follows δ k l
  pub levels_given : {u v : List ℕ} {x y : ℕ} {q r : Answer} → Inside s x y → Read s x y 0 q u → Read t x y 0 r v →
      ((k : ℤ) × GivesLevel q k) × ((l : ℤ) × GivesLevel r l)
  pub run_levels : {u v : List ℕ} {x y : ℕ} {q q' r r' : List ℤ} → FillRun s x y q 0 q' u → FillRun t x y r 0 r' v → (k : ℕ) → k < length q → k < length r →
      Follows δ (get_or q' k (pos 0)) (get_or r' k (pos 0))
  -- at the node by exactly δ
  pub read_node : {u v : List ℕ} {q r : Answer} → Read s (line_x s i) (line_y s j) 0 q u → Read t (line_x s i) (line_y s j) 0 r v →
      (k : ℤ) × GivesLevel q k × GivesLevel r (k +ℤ δ)
  pub run_node : {u v : List ℕ} {x : ℕ} {q q' r r' : List ℤ} → FillRun s x (line_y s j) q 0 q' u → FillRun t x (line_y s j) r 0 r' v →
      (k : ℕ) → k < length q → k < length r → x + k ≡ line_x s i → get_or r' k (pos 0) ≡ get_or q' k (pos 0) +ℤ δ

-- ---- the program

-- the conditions that it looks at, by their numbers, in the order of looking: 1, fewer than two bytes; those of the sheet; 10
abbrev pub of_reach : List (Rule (List ℕ))
of_reach = rule 1 too_short ∷ of_sheet sheet_in ++ rule 10 (λ u. no_node (sheet_in u) (column_in u) (row_in u)) ∷ []

-- ---- the request

pub record NodeReach : Type 0 where
  -- "A setter nudges one height by d steps." "Lines and other numbers are the same in both sheets." Here by δ grains, of either sign
  pub nudged : {s t : List ℕ} {i j : ℕ} {δ : ℤ} → NudgedSheet s i j δ t → NudgedNode s i j δ t
  -- no pixel is left out: it lies outside the cells that touch the node, or on a far side, or within its reach, and never both
  pub either : {s : List ℕ} {i j : ℕ} → Accepted s → i < columns s → j < rows s → (x y : ℕ) → Beside s i j x y ↔ (¬ WithinReach s i j x y)
  -- "never against the sign of d, and by at most 64 × |d| grains.": d steps are 64 d grains
  pub read_steps : {s t u v : List ℕ} {i j x y : ℕ} {d k l : ℤ} {q r : Answer} → NudgedSheet s i j (pos 64 *ℤ d) t → Read s x y 0 q u → Read t x y 0 r v →
      GivesLevel q k → GivesLevel r l → FollowsSteps d k l
  pub run_steps : {s t u v : List ℕ} {i j x y : ℕ} {d : ℤ} {q q' r r' : List ℤ} → NudgedSheet s i j (pos 64 *ℤ d) t →
      FillRun s x y q 0 q' u → FillRun t x y r 0 r' v → (k : ℕ) → k < length q → k < length r → FollowsSteps d (get_or q' k (pos 0)) (get_or r' k (pos 0))
  -- setting a node to the height h, with the slopes that it had, gives such a pair of sheets; d is the difference of the heights
  pub setting : {s t : List ℕ} {i j : ℕ} {h p q : ℤ} → SetNode s i j (node h p q) 0 t → p ≡ (node_at s i j).slope_x → q ≡ (node_at s i j).slope_y →
      NudgedSheet s i j (pos 64 *ℤ (h -ℤ (node_at s i j).stored_height)) t
  -- "A program reads […] a sheet, then a column byte and a row byte, and prints one line […]: the positions of the touched cells' left, top, right and bottom
  -- outermost lines." What its worker gives for a sheet with these bytes behind it, where the sheet is accepted and has the node; the text of the line,
  -- "decimal with one blank between", is that of `ReachLineLaws.lines` (program_reach_line)
  pub answer : {s t : List ℕ} {i j : ℕ} {r : Result OuterLines Refusal} → Accepted s → i < columns s → j < rows s → ReachOf (s ++ i ∷ j ∷ []) r t →
      let o = outermost s i j in r ≡ Ok (record { left = o.left; top = o.top; right = o.right; bottom = o.bottom })
  -- a cell of the sheet touches the node exactly when it lies between these lines, and each of them is a line of such a cell
  pub between : {s : List ℕ} {i j a b : ℕ} → Accepted s → i < columns s → j < rows s → HasCell s a b → TouchesNode a b i j ↔ WithinLines s i j a b
  pub attained : {s : List ℕ} {i j : ℕ} → Accepted s → i < columns s → j < rows s → Attained s i j
  -- "The last two bytes read are always column and row; fewer than two bytes are refused with 1. A wrong column or row is refused with 10."
  pub last_two : (s : List ℕ) (i j : ℕ) → let input = s ++ i ∷ j ∷ [] in (sheet_in input ≡ s) × (column_in input ≡ i) × (row_in input ≡ j)
  pub together : (input : List ℕ) → 2 ≤ length input → sheet_in input ++ column_in input ∷ row_in input ∷ [] ≡ input
  pub one : (input : List ℕ) → (too_short input ≡ false) ↔ (2 ≤ length input)
  pub refusals : {input t : List ℕ} {r : Result OuterLines Refusal} → ReachOf input r t → Gives of_reach input (told r).number
  pub short : {input t : List ℕ} {r : Result OuterLines Refusal} → ReachOf input r t → length input < 2 → RefusedWith r 1
  pub gives_ten : {input t : List ℕ} {r : Result OuterLines Refusal} → ReachOf input r t →
      ((told r).number ≡ 10)
      ↔ ((2 ≤ length input) × Accepted (sheet_in input) × ¬ ((column_in input < columns (sheet_in input)) × (row_in input < rows (sheet_in input))))
  -- refused, the answer is an `Err` with its number; the bytes that the worker is lent come back as they were
  pub refused : {input t : List ℕ} {r : Result OuterLines Refusal} {n : ℕ} → ReachOf input r t → (told r).number ≡ n → ¬ (n ≡ 0) → RefusedWith r n
  pub kept : {input t : List ℕ} {r : Result OuterLines Refusal} → ReachOf input r t → t ≡ input
  -- "at most 25,621 bytes": what stands behind them in a longer input changes no answer
  pub cut : {input t u : List ℕ} {q r : Result OuterLines Refusal} → ReachOf input q t → ReachOf (take 25621 input) r u → r ≡ q
