-- A sheet put together: the header and lines of another, then nodes row by row; and what is proved of it. Assumes nothing.
use Rattle.std.specs.Prelude.{ℕ, zero, suc, ◌≤◌, ◌<◌, ◌≡◌, List, [], ◌++◌, true, length, take}
use Rattle.sheet_words.specs.Word.{byte_at, Bytes}
use Rattle.sheet_layout.specs.Format.{columns, rows, decoded, node_in, node_size, nodes_offset, node_bytes, node_at, stated_size}
use Rattle.sheet_layout.specs.SameLines.{SameLines}
use Rattle.sheet_calls.specs.Refusals.{Accepted}

-- the bytes of n things, one behind the other
unfoldable pub in_order : (ℕ → List ℕ) → ℕ → List ℕ
in_order f zero = []
in_order f (suc k) = in_order f k ++ f k

-- the header and lines of s, then its nodes row by row; b i j are the bytes of the node at column i and row j
unfoldable pub assembled : List ℕ → (ℕ → ℕ → List ℕ) → List ℕ
assembled s b = take (nodes_offset s) s ++ in_order (λ j. in_order (λ i. b i j) (columns s)) (rows s)

-- ---- what is proved

-- header and lines are there, and each node has as many bytes as it should
pub record Whole (s : List ℕ) (b : ℕ → ℕ → List ℕ) : Type 0 where
  pub lines : nodes_offset s ≤ length s
  pub nodes : (i j : ℕ) → i < columns s → j < rows s → length (b i j) ≡ node_size

pub record AssemblyLaws : Type 0 where
  pub size : (s : List ℕ) (b : ℕ → ℕ → List ℕ) → Whole s b → length (assembled s b) ≡ stated_size s
  -- what comes before the nodes stays, byte by byte; so do the lines
  pub front : (s : List ℕ) (b : ℕ → ℕ → List ℕ) → Whole s b → (k : ℕ) → k < nodes_offset s → byte_at (assembled s b) k ≡ byte_at s k
  pub lines : (s : List ℕ) (b : ℕ → ℕ → List ℕ) → Whole s b → SameLines s (assembled s b)
  -- each node has its bytes, and their numbers
  pub nodes : (s : List ℕ) (b : ℕ → ℕ → List ℕ) → Whole s b → (i j : ℕ) → i < columns s → j < rows s → node_bytes (assembled s b) i j ≡ b i j
  pub numbers : (s : List ℕ) (b : ℕ → ℕ → List ℕ) → Whole s b → (i j : ℕ) → i < columns s → j < rows s → node_at (assembled s b) i j ≡ decoded (b i j)
  -- it is accepted where s is, and the new numbers are in range
  pub accepted : (s : List ℕ) (b : ℕ → ℕ → List ℕ) → Whole s b → Accepted s →
      ((i j : ℕ) → i < columns s → j < rows s → node_in (decoded (b i j)) ≡ true) → Accepted (assembled s b)
  -- bytes from bytes; and a sheet of its stated length is put together from its own nodes
  pub bytes : (s : List ℕ) (b : ℕ → ℕ → List ℕ) → Bytes s → ((i j : ℕ) → i < columns s → j < rows s → Bytes (b i j)) → Bytes (assembled s b)
  pub itself : (s : List ℕ) → length s ≡ stated_size s → assembled s (node_bytes s) ≡ s
