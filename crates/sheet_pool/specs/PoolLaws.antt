-- Pools: what the conditions say, what a pool is, and when two sheets are the same bytes. Assumes nothing.
use Rattle.std.specs.Prelude.{ℕ, ◌<◌, ◌≡◌, ◌↔◌, ◌⊎◌, List, [], ◌∷◌, map, false, pos, length}
use Rattle.sheet_words.specs.Word.{byte_at, Bytes}
use Rattle.sheet_layout.specs.Format.{columns, rows, node, nodes_offset, node_at}
use Rattle.sheet_layout.specs.SameLines.{SameLines}
use Rattle.sheet_calls.specs.Refusals.{Accepted}
use Rattle.sheet_calls.specs.WellFormed.{InRange}
use Rattle.sheet_calls.specs.OnSameLines.{OnSameLines}
use Rattle.sheet_pool.specs.Pool.{added, pooled_node, second_refused, other_lines, other_target, some_sum_out, pool_rules, pool_refusal, with_pool}

-- what is shown of the pool p of a and b
pub record IsPool (a b p : List ℕ) : Type 0 where
  pub pair : OnSameLines a b
  pub accepted : Accepted p
  pub size : length p ≡ length a
  -- header and lines are those of a, byte by byte
  pub front : (k : ℕ) → k < nodes_offset a → byte_at p k ≡ byte_at a k
  pub lines : SameLines a p
  -- each node has the sums
  pub nodes : (i j : ℕ) → i < columns a → j < rows a → node_at p i j ≡ added (node_at a i j) (node_at b i j)
  pub bytes : Bytes a → Bytes p

-- what two pools, by the relation R, leave of a, b and c in this order: the first two are pooled first, or the last two
pub record FirstTwo (R : List ℕ → List ℕ → List ℕ → Type 0) (a b c p : List ℕ) : Type 0 where
  pub between : List ℕ
  pub inner : R a b between
  pub outer : R between c p

pub record LastTwo (R : List ℕ → List ℕ → List ℕ → Type 0) (a b c p : List ℕ) : Type 0 where
  pub between : List ℕ
  pub inner : R b c between
  pub outer : R a between p

abbrev pub Grouped : (List ℕ → List ℕ → List ℕ → Type 0) → List ℕ → List ℕ → List ℕ → List ℕ → Type 0
Grouped R a b c p = FirstTwo R a b c p ⊎ LastTwo R a b c p

-- P of three sheets in each of their six orders
abbrev pub InAnyOrder : (List ℕ → List ℕ → List ℕ → Type 0) → List ℕ → List ℕ → List ℕ → Type 0
InAnyOrder P a b c = P a b c × P a c b × P b a c × P b c a × P c a b × P c b a

-- every node's numbers are 0
pub record AllZero (s : List ℕ) : Type 0 where
  pub zeros : (i j : ℕ) → i < columns s → j < rows s → node_at s i j ≡ node (pos 0) (pos 0) (pos 0)

pub record PoolLaws : Type 0 where
  -- the numbers that the call looks at, in order, and what its own say
  pub numbers : map (λ r. r.number) pool_rules ≡ 1 ∷ 2 ∷ 3 ∷ 4 ∷ 5 ∷ 6 ∷ 15 ∷ 16 ∷ 17 ∷ 11 ∷ []
  pub fifteen : (b : List ℕ) → (second_refused b ≡ false) ↔ Accepted b
  pub sixteen : (a b : List ℕ) → (other_lines a b ≡ false) ↔ SameLines a b
  pub seventeen : (a : List ℕ) (n : ℕ) → (other_target a n ≡ false) ↔ (n ≡ length a)
  pub eleven : (a b : List ℕ) → (some_sum_out a b ≡ false) ↔ ((j : ℕ) → j < rows a → (i : ℕ) → i < columns a → InRange (pooled_node a b i j))
  -- what the call leaves
  pub pools : (a b target : List ℕ) → pool_refusal a b (length target) ≡ 0 → IsPool a b (with_pool a b target)
  pub refused : (a b target : List ℕ) → ¬ (pool_refusal a b (length target) ≡ 0) → with_pool a b target ≡ target
  pub size : (a b target : List ℕ) → length (with_pool a b target) ≡ length target
  -- accepted sheets on the same lines with the same numbers are the same bytes
  pub same_bytes : (a b : List ℕ) → OnSameLines a b → Bytes a → Bytes b → ((i j : ℕ) → i < columns a → j < rows a → node_at b i j ≡ node_at a i j) → b ≡ a
  -- so the order of two sheets does not matter, nor the order and the grouping of three; and one of zeros, on either side, changes nothing
  pub either_order : (a b p q : List ℕ) → Bytes a → Bytes b → IsPool a b p → IsPool b a q → q ≡ p
  pub any_order : (a b c p q : List ℕ) → Bytes a → Bytes b → Bytes c → Grouped IsPool a b c p → InAnyOrder (λ a' b' c'. Grouped IsPool a' b' c' q → q ≡ p) a b c
  pub with_zeros : (a b p : List ℕ) → Bytes a → AllZero b → IsPool a b p → p ≡ a
  pub zeros_before : (a b p : List ℕ) → Bytes a → Bytes b → AllZero b → IsPool b a p → p ≡ a
  pub zeros_taken : (a b : List ℕ) → OnSameLines a b → AllZero b → pool_refusal a b (length a) ≡ 0
