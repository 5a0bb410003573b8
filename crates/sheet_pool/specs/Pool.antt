-- Two sheets pooled into a third buffer (02, #104): the pool, when the call is refused, and what it leaves. Assumes nothing.
use Rattle.std.specs.Prelude.{ℕ, List, [], ◌∷◌, ◌++◌, Bool, cond, not, ◌||◌, eqb, length, ◌+ℤ◌}
use Rattle.sheet_layout.specs.Some.{some}
use Rattle.sheet_layout.specs.Format.{columns, rows, line_x, line_y, Node, node, encoded, node_at}
use Rattle.sheet_calls.specs.Rules.{Rule, rule, first_refusal}
use Rattle.sheet_calls.specs.Refusals.{wrong_numbers, sheet_rules, sheet_refusal}
use Rattle.sheet_assembly.specs.Assembled.{assembled}

-- ---- the pool of the sheets a and b

-- two nodes added: "each height and slope is the sum of the two"
unfoldable pub added : Node → Node → Node
added v w = node (v.stored_height +ℤ w.stored_height) (v.slope_x +ℤ w.slope_x) (v.slope_y +ℤ w.slope_y)

-- the pool's node at column i and row j
unfoldable pub pooled_node : List ℕ → List ℕ → ℕ → ℕ → Node
pooled_node a b i j = added (node_at a i j) (node_at b i j)

-- "header and lines are copied", from a, and behind them each node's sums
unfoldable pub pooled : List ℕ → List ℕ → List ℕ
pooled a b = assembled a (λ i j. encoded (pooled_node a b i j))

-- ---- when the call is refused

-- 15: the second sheet would be refused by 1 to 6
unfoldable pub second_refused : List ℕ → Bool
second_refused b = not (eqb (sheet_refusal b) 0)

-- along an axis: their number differs, or a position
unfoldable pub other_along : (ℕ → ℕ) → ℕ → (ℕ → ℕ) → ℕ → Bool
other_along line count line' count' = not (eqb count' count) || some (λ k. not (eqb (line' k) (line k))) count

-- 16: the lines differ, along x or along y
unfoldable pub other_lines : List ℕ → List ℕ → Bool
other_lines a b = other_along (line_x a) (columns a) (line_x b) (columns b) || other_along (line_y a) (rows a) (line_y b) (rows b)

-- 17: the target's length, n, is not the first sheet's
unfoldable pub other_target : List ℕ → ℕ → Bool
other_target a n = not (eqb n (length a))

-- 11: a sum is out of range
unfoldable pub some_sum_out : List ℕ → List ℕ → Bool
some_sum_out a b = some (λ j. some (λ i. wrong_numbers (pooled_node a b i j)) (columns a)) (rows a)

-- what the call is given: two sheets, and how many bytes the target has
pub record PoolInput : Type 0 where
  pub first : List ℕ
  pub second : List ℕ
  pub size : ℕ

-- its rules in the order of looking: 11 is the last
unfoldable pub pool_rules : List (Rule PoolInput)
pool_rules =
    sheet_rules (λ u. u.first) ++ rule 15 (λ u. second_refused u.second) ∷ rule 16 (λ u. other_lines u.first u.second) ∷
    rule 17 (λ u. other_target u.first u.size) ∷ rule 11 (λ u. some_sum_out u.first u.second) ∷ []

-- the number that refuses it, or 0
unfoldable pub pool_refusal : List ℕ → List ℕ → ℕ → ℕ
pool_refusal a b n = first_refusal pool_rules (record { first = a; second = b; size = n })

-- ---- what it leaves

-- the target holds the pool, or, refused, what it held
unfoldable pub with_pool : List ℕ → List ℕ → List ℕ → List ℕ
with_pool a b target = cond (eqb (pool_refusal a b (length target)) 0) (pooled a b) target
