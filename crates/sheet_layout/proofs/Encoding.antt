-- A node's numbers and their bytes. Assumes nothing.
use Prim.Native.Nat.{ℕ, ◌+◌, ◌≤◌}
use mathlib.Core.Path.{◌≡◌, refl}
use mathlib.Core.List.{List, append_assoc}
use mathlib.Core.Bool.{true}
use native.Mathlib.Omega.{arith}
use lib.ListN.{length, take, drop}
use lib.Seq.{take-add, take_all}
use lib.IntN.{ℤ}
use Rattle.integers.specs.Within.{◌within◌}
use Rattle.integers.proofs.Bounds.{within_mono, within_upper, within_lower}
use Rattle.sheet_words.specs.Word.{word_at, signed, bits_of, bytes_of, Bytes}
use Rattle.sheet_words.proofs.Signs.{signed_bits_lem, bits_signed_lem, bits_small}
use Rattle.sheet_words.proofs.Bytes.{word_bytes_lem, bytes_word_lem, bytes_of_lem, bytes_append}
use Rattle.sheet_layout.specs.Format.{Node, slope_bytes, decoded, encoded, node_in, node_size}
use Rattle.sheet_layout.specs.EncodingLaws.{EncodingLaws}
use Rattle.sheet_layout.proofs.NodeRange.{node_in_lem}

-- ---- a number and its two bytes

pub number_back : (z : ℤ) {N : ℕ} → z within N → N ≤ 32767 → signed (word_at (bytes_of (bits_of z)) 0) ≡ z
number_back z w h = rw (word_bytes_lem (bits_of z)) (signed_bits_lem z (within_lower {N = 32768} (within_mono w (omega arith))) (within_upper (within_mono w (omega arith))))

bytes_back : (b : List ℕ) (i : ℕ) → Bytes b → i + 2 ≤ length b → bytes_of (bits_of (signed (word_at b i))) ≡ take 2 (drop i b)
unfolding Bytes
bytes_back b i h l = rw (bits_signed_lem (word_at b i) (omega (arith, h i, h (i + 1)))) (bytes_word_lem b i h l)

-- ---- a node and its six

encoded_size_lem : (v : Node) → length (encoded v) ≡ node_size
unfolding encoded slope_bytes bytes_of
encoded_size_lem v = refl

decoded_encoded_lem : (v : Node) → node_in v ≡ true → decoded (encoded v) ≡ v
unfolding decoded encoded slope_bytes bytes_of
decoded_encoded_lem v e =
    let r = (node_in_lem v).0 e in
    rw (number_back _ r.0.0 (omega arith), number_back _ r.0.1 (omega arith), number_back _ r.1 (omega arith)) refl

encoded_decoded_lem : (b : List ℕ) → Bytes b → length b ≡ node_size → encoded (decoded b) ≡ b
unfolding decoded encoded slope_bytes
encoded_decoded_lem b h l =
    rw (
      bytes_back b 0 h (omega arith),
      bytes_back b 2 h (omega arith),
      bytes_back b 4 h (omega arith),
      ← append_assoc (take 2 b) (take 2 (drop 2 b)) (take 2 (drop 4 b)),
      ← take-add 2 2 b,
      ← take-add 4 2 b,
    ) (take_all 6 b (omega arith))

number_bytes : (z : ℤ) → z within 4095 → Bytes (bytes_of (bits_of z))
number_bytes z w = bytes_of_lem _ (bits_small (within_mono w (omega arith)))

pub encoded_bytes : (v : Node) → node_in v ≡ true → Bytes (encoded v)
unfolding encoded slope_bytes
encoded_bytes v e =
    let r = (node_in_lem v).0 e in
    bytes_append _ _ (number_bytes _ r.0.0) (bytes_append _ _ (number_bytes _ r.0.1) (number_bytes _ r.1))

pub encoding_laws : EncodingLaws
encoding_laws = record { encoded_size = encoded_size_lem; decoded_encoded = decoded_encoded_lem; encoded_decoded = encoded_decoded_lem }
