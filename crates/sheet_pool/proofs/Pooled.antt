-- What a pool is: an accepted sheet on the same lines, whose nodes have the sums. Assumes nothing.
use Prim.Native.Nat.{ℕ, ◌≤◌, ◌<◌}
use mathlib.Core.Path.{◌≡◌, sym, ◌∙◌, ap}
use mathlib.Core.List.{List}
use mathlib.Core.Bool.{true}
use native.Mathlib.Decide.{ℕ_discrete}
use native.Mathlib.Omega.{arith}
use lib.ListN.{length, take}
use lib.Seq.{length-take-le, take_at}
use Rattle.sheet_layout.specs.Format.{columns, rows, encoded, decoded, node_in, nodes_offset, stated_size}
use Rattle.sheet_layout.proofs.Encoding.{encoding_laws, encoded_bytes}
use Rattle.sheet_calls.proofs.Ranges.{node_in_range}
use Rattle.sheet_calls.proofs.WellFormed.{accepted_laws}
use Rattle.sheet_assembly.specs.Assembled.{assembled, Whole}
use Rattle.sheet_assembly.proofs.Assembled.{assembly_laws}
use Rattle.sheet_pool.specs.Pool.{pooled_node, pooled, pool_refusal, with_pool}
use Rattle.sheet_pool.specs.PoolLaws.{IsPool}
use Rattle.sheet_pool.proofs.Chain.{Held, pool_held, pooled_is, refused_is}

module _ {a b : List ℕ} {n : ℕ} (h : Held a b n) where
  abbrev node_bytes : ℕ → ℕ → List ℕ
  node_bytes i j = encoded (pooled_node a b i j)

  size : length a ≡ stated_size a
  size = (accepted_laws.sound a h.pair.first_accepted).whole

  whole : Whole a node_bytes
  whole = record { lines = omega (arith, size); nodes = λ i j l k. encoding_laws.encoded_size (pooled_node a b i j) }

  in_range : (i j : ℕ) → i < columns a → j < rows a → node_in (pooled_node a b i j) ≡ true
  in_range i j l k = (node_in_range _).1 (h.sums i j l k)

  back : (i j : ℕ) → i < columns a → j < rows a → decoded (node_bytes i j) ≡ pooled_node a b i j
  back i j l k = encoding_laws.decoded_encoded _ (in_range i j l k)

  pub is_pool : IsPool a b (pooled a b)
  unfolding pooled pooled_node
  is_pool = record {
    pair = h.pair;
    accepted = assembly_laws.accepted a node_bytes whole h.pair.first_accepted (λ i j l k. rw (back i j l k) (in_range i j l k));
    size = assembly_laws.size a node_bytes whole ∙ sym size;
    front = assembly_laws.front a node_bytes whole;
    lines = assembly_laws.lines a node_bytes whole;
    nodes = λ i j l k. assembly_laws.numbers a node_bytes whole i j l k ∙ back i j l k;
    bytes = λ bytes. assembly_laws.bytes a node_bytes bytes (λ i j l k. encoded_bytes _ (in_range i j l k));
  }

-- it starts with the lines of a
pub pooled_front : (a b : List ℕ) → nodes_offset a ≤ length a → take (nodes_offset a) (pooled a b) ≡ take (nodes_offset a) a
unfolding pooled assembled
pooled_front a b lines = take_at (take (nodes_offset a) a) _ (nodes_offset a) (length-take-le (nodes_offset a) a lines)

pub pools : (a b target : List ℕ) → pool_refusal a b (length target) ≡ 0 → IsPool a b (with_pool a b target)
pools a b target e = rw (pooled_is a b target e) (is_pool (pool_held a b _ e))

pub left_size : (a b target : List ℕ) → length (with_pool a b target) ≡ length target
left_size a b target = elim (ℕ_discrete (pool_refusal a b (length target)) 0) [
  | yes e ↦ (pools a b target e).size ∙ sym (pool_held a b _ e).size
  | no h ↦ ap length (refused_is a b target h)
]
