-- A sheet in which the bytes of one node have been written anew. Assumes nothing.
use Prim.Native.Nat.{ℕ, ◌+◌, ◌≤◌, ◌<◌}
use mathlib.Core.Path.{◌≡◌, sym, ◌∙◌, ap}
use mathlib.Core.Logic.{⊎_elim}
use mathlib.Core.List.{List}
use mathlib.Core.Bool.{true}
use native.Mathlib.Omega.{arith}
use lib.ListN.{length, take, drop}
use Rattle.sheet_words.specs.Word.{byte_at, replaced, Bytes}
use Rattle.sheet_layout.specs.Format.{columns, Node, encoded, decoded, node_in, node_size, node_offset, node_bytes, node_at}
use Rattle.sheet_words.proofs.Replaced.{stretch_length, stretch_bytes, replaced_same, replaced_length, replaced_stretch, replaced_before, replaced_after, replaced_again}
use Rattle.sheet_layout.proofs.Encoding.{encoding_laws}
use Rattle.sheet_layout.proofs.Offsets.{nodes_apart}
use Rattle.sheet_layout.proofs.SameFront.{SameFront, same_offset, same_node}

abbrev pub written : List ℕ → ℕ → ℕ → Node → List ℕ
written s i j v = replaced s (node_offset s i j) (encoded v)

module _ (s : List ℕ) (i j : ℕ) (v : Node) (fits : node_offset s i j + node_size ≤ length s) where
  fits_encoded : node_offset s i j + length (encoded v) ≤ length s
  fits_encoded = rw (encoding_laws.encoded_size v) fits

  pub written_length : length (written s i j v) ≡ length s
  written_length = replaced_length s _ (encoded v) fits_encoded

  pub written_before : (k : ℕ) → k < node_offset s i j → byte_at (written s i j v) k ≡ byte_at s k
  written_before = replaced_before s _ (encoded v) fits_encoded

  pub written_after : (k : ℕ) → node_offset s i j + node_size ≤ k → byte_at (written s i j v) k ≡ byte_at s k
  written_after k h = replaced_after s _ (encoded v) fits_encoded k (rw (encoding_laws.encoded_size v) h)

  -- all that comes before the nodes stays
  pub written_front : SameFront s (written s i j v)
  written_front = record { bytes = λ k h. written_before k (omega arith) }

  pub written_bytes : node_bytes (written s i j v) i j ≡ encoded v
  written_bytes =
      let t = written s i j v in
      ap (λ at. take node_size (drop at t)) (same_offset written_front i j)
      ∙ ap (λ n. take n (drop (node_offset s i j) t)) (sym (encoding_laws.encoded_size v))
      ∙ replaced_stretch s _ (encoded v) fits_encoded

  pub written_node : node_in v ≡ true → node_at (written s i j v) i j ≡ v
  unfolding node_at
  written_node n = ap decoded written_bytes ∙ encoding_laws.decoded_encoded v n

  pub written_others : (i' j' : ℕ) → i < columns s → i' < columns s → ((i' ≡ i) × (j' ≡ j) → ⊥) → node_at (written s i j v) i' j' ≡ node_at s i' j'
  written_others i' j' h h' other =
      same_node written_front i' j'
      (λ k l. ⊎_elim (λ a. written_after _ (omega arith)) (λ b. written_before _ (omega arith)) (nodes_apart s i j i' j' h h' other))

  pub written_again : (w : Node) → written (written s i j v) i j w ≡ written s i j w
  written_again w =
      ap (λ at. replaced (written s i j v) at (encoded w)) (same_offset written_front i j)
      ∙ replaced_again s _ (encoded v) fits_encoded (encoded w) (encoding_laws.encoded_size w ∙ sym (encoding_laws.encoded_size v))

pub written_same : (s : List ℕ) (i j : ℕ) → node_offset s i j + node_size ≤ length s → Bytes s → written s i j (node_at s i j) ≡ s
unfolding node_at
written_same s i j fits bytes =
    let o = node_offset s i j in
    ap (replaced s o) (encoding_laws.encoded_decoded _ (stretch_bytes s o node_size bytes) (stretch_length s o node_size fits)) ∙ replaced_same s o node_size fits
