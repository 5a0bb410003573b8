-- Nodes: what looking one up hands back; what setting one changes and leaves. Assumes nothing.
use Rattle.std.specs.Prelude.{ℕ, ◌+◌, ◌*◌, ◌≤◌, ◌<◌, ◌≡◌, List, [], length}
use Rattle.sheet_words.specs.Word.{byte_at, Bytes}
use Rattle.sheet_layout.specs.Format.{columns, rows, Node, decoded, encoded, node_size, node_offset, node_at}
use Rattle.sheet_layout.specs.SameLines.{SameLines}
use Rattle.sheet_calls.specs.Refusals.{lookup_refusal, setting_refusal, Accepted}
use Rattle.sheet_calls.specs.Calls.{stretch, looked_up, bytes_in, with_node}

-- looking up hands back the six bytes of the node, or, refused, none from the start
pub record LookupLaws : Type 0 where
  pub found : (s : List ℕ) (i j : ℕ) → lookup_refusal s i j ≡ 0 → looked_up s i j ≡ stretch (8 + 2 * columns s + 2 * rows s + 6 * (j * columns s + i)) 6
  pub refused : (s : List ℕ) (i j : ℕ) → ¬ (lookup_refusal s i j ≡ 0) → looked_up s i j ≡ stretch 0 0
  -- they lie in the sheet, and their numbers are the node's
  pub fits : (s : List ℕ) (i j : ℕ) → (looked_up s i j).start + (looked_up s i j).size ≤ length s
  pub numbers : (s : List ℕ) (i j : ℕ) → lookup_refusal s i j ≡ 0 → decoded (bytes_in s (looked_up s i j)) ≡ node_at s i j
  -- six bytes, each that of the sheet at its index; refused, no byte at all
  pub six : (s : List ℕ) (i j : ℕ) → lookup_refusal s i j ≡ 0 → length (bytes_in s (looked_up s i j)) ≡ 6
  pub each : (s : List ℕ) (i j : ℕ) → lookup_refusal s i j ≡ 0 → (k : ℕ) → k < 6 →
      byte_at (bytes_in s (looked_up s i j)) k ≡ byte_at s (8 + 2 * columns s + 2 * rows s + 6 * (j * columns s + i) + k)
  pub none : (s : List ℕ) (i j : ℕ) → ¬ (lookup_refusal s i j ≡ 0) → bytes_in s (looked_up s i j) ≡ []

-- what setting node (i, j) of s leaves, t
pub record Leaves (s : List ℕ) (i j : ℕ) (t : List ℕ) : Type 0 where
  -- the length, and every byte outside the node; bytes stay bytes
  pub size : length t ≡ length s
  pub before : (k : ℕ) → k < node_offset s i j → byte_at t k ≡ byte_at s k
  pub after : (k : ℕ) → node_offset s i j + node_size ≤ k → byte_at t k ≡ byte_at s k
  pub bytes : Bytes s → Bytes t
  -- an accepted sheet, with the same lines
  pub accepted : Accepted s → Accepted t
  pub lines : SameLines s t
  -- every other node
  pub others : (i' j' : ℕ) → i' < columns s → ¬ ((i' ≡ i) × (j' ≡ j)) → node_at t i' j' ≡ node_at s i' j'

-- node (i, j) of t reads back as v; looking it up hands back v's bytes, which decode to v
pub record ReadsBack (i j : ℕ) (v : Node) (t : List ℕ) : Type 0 where
  pub numbers : node_at t i j ≡ v
  pub found : lookup_refusal t i j ≡ 0
  pub handed_back : bytes_in t (looked_up t i j) ≡ encoded v
  pub decodes : decoded (bytes_in t (looked_up t i j)) ≡ v

pub record SettingLaws : Type 0 where
  pub leaves : (s : List ℕ) (i j : ℕ) (v : Node) → Leaves s i j (with_node s i j v)
  pub refused : (s : List ℕ) (i j : ℕ) (v : Node) → ¬ (setting_refusal s i j v ≡ 0) → with_node s i j v ≡ s
  pub reads_back : (s : List ℕ) (i j : ℕ) (v : Node) → setting_refusal s i j v ≡ 0 → ReadsBack i j v (with_node s i j v)
  -- setting twice is the last one
  pub twice : (s : List ℕ) (i j : ℕ) (v w : Node) → setting_refusal s i j w ≡ 0 → with_node (with_node s i j v) i j w ≡ with_node s i j w
  -- setting what is there changes nothing, and is not refused where the node is there
  pub same : (s : List ℕ) (i j : ℕ) → Bytes s → with_node s i j (node_at s i j) ≡ s
  pub same_taken : (s : List ℕ) (i j : ℕ) → lookup_refusal s i j ≡ 0 → setting_refusal s i j (node_at s i j) ≡ 0
