-- Numbers of 16 bits in the bytes of two sheets, added where they lie. Assumes nothing.
use Rattle.std.specs.Prelude.{ℕ, ◌+◌, ◌*◌, ◌≤◌, ◌<◌, List, ℤ, ◌+ℤ◌, length, drop}
use Rattle.integers.specs.Within.{◌within◌}
use Rattle.sheet_words.specs.Word.{word_at, signed, bits_of, bytes_of, replaced}
use Rattle.sheet_layout.specs.Format.{steepest, nodes_offset}
use Rattle.sheet_pool.specs.Pool.{pooled}

-- the signed numbers at an index of both, added
unfoldable pub sum_at : List ℕ → List ℕ → ℕ → ℤ
sum_at a b at = signed (word_at a at) +ℤ signed (word_at b at)

-- the bytes of sum k, from index `start` on
unfoldable pub sum_bytes : List ℕ → List ℕ → ℕ → ℕ → List ℕ
sum_bytes a b start k = bytes_of (bits_of (sum_at a b (start + 2 * k)))

-- `count` signed numbers from index `start` on are there, each in a node's range
pub record Ranged (s : List ℕ) (start count : ℕ) : Type 0 where
  pub there : start + 2 * count ≤ length s
  pub small : (k : ℕ) → k < count → signed (word_at s (start + 2 * k)) within steepest

-- the target with the nodes of the pool of a and b in place of its own
unfoldable pub with_sums : List ℕ → List ℕ → List ℕ → List ℕ
with_sums a b target = replaced target (nodes_offset a) (drop (nodes_offset a) (pooled a b))
