-- A node's numbers and its bytes are inverse to each other on the range. Assumes nothing.
use Rattle.std.specs.Prelude.{◌≡◌, List, true, ℕ, length}
use Rattle.sheet_words.specs.Word.{Bytes}
use Rattle.sheet_layout.specs.Format.{Node, decoded, encoded, node_in, node_size}

pub record EncodingLaws : Type 0 where
  pub encoded_size : (v : Node) → length (encoded v) ≡ node_size
  pub decoded_encoded : (v : Node) → node_in v ≡ true → decoded (encoded v) ≡ v
  pub encoded_decoded : (b : List ℕ) → Bytes b → length b ≡ node_size → encoded (decoded b) ≡ b
