-- Two accepted sheets on the same lines whose nodes have the same numbers: they are the same bytes. Assumes nothing.
use Prim.Native.Nat.{ℕ, zero, suc, ◌+◌, ◌*◌, ◌-◌, ◌/◌, ◌≤◌, ◌<◌}
use mathlib.Core.Path.{◌≡◌, sym, ◌∙◌, ap}
use mathlib.Core.List.{List}
use native.Mathlib.Decide.{dec_lt}
use native.Mathlib.Nat.{le_of_eq}
use native.Mathlib.Omega.{arith}
use Rattle.sheet_words.specs.Word.{byte_at, word_at, Bytes}
use Rattle.sheet_words.proofs.Replaced.{stretch_length, stretch_bytes}
use Rattle.sheet_layout.specs.Format.{header_size, columns, rows, encoded, node_size, nodes_offset, node_offset, node_bytes, node_at}
use Rattle.sheet_layout.proofs.Encoding.{encoding_laws}
use Rattle.sheet_layout.proofs.Offsets.{node_fits}
use Rattle.sheet_layout.proofs.SameFront.{SameFront}
use Rattle.sheet_layout.specs.SameLines.{SameLines}
use Rattle.sheet_calls.specs.WellFormed.{WellFormed}
use Rattle.sheet_calls.proofs.WellFormed.{accepted_laws}
use Rattle.sheet_assembly.proofs.Assembled.{assembly_laws, same_assembled}
use Rattle.sheet_calls.specs.OnSameLines.{OnSameLines}

-- ---- the header and the lines

-- two bytes that make the same number of 16 bits
word_parts : {l h l' h' : ℕ} → l < 256 → l' < 256 → l + h * 256 ≡ l' + h' * 256 → (l ≡ l') × (h ≡ h')
word_parts p q e = (omega (arith, e), omega (arith, e))

module _ {a b : List ℕ} (wa : WellFormed a) (wb : WellFormed b) (lines : SameLines a b) (ba : Bytes a) (bb : Bytes b) where
  header : (k : ℕ) → k < header_size → byte_at b k ≡ byte_at a k
  header zero h = wb.mark_l ∙ sym wa.mark_l
  header (suc zero) h = wb.mark_v ∙ sym wa.mark_v
  header (suc (suc zero)) h = wb.mark_s ∙ sym wa.mark_s
  header (suc (suc (suc zero))) h = omega (arith, wa.version_one, wb.version_one)
  header (suc (suc (suc (suc zero)))) h = omega (arith, wa.version_one, wb.version_one)
  header (suc (suc (suc (suc (suc zero))))) h = lines.same_columns
  header (suc (suc (suc (suc (suc (suc zero)))))) h = lines.same_rows
  header (suc (suc (suc (suc (suc (suc (suc zero))))))) h = wb.blank ∙ sym wa.blank
  header (suc (suc (suc (suc (suc (suc (suc (suc k)))))))) h = absurd (omega arith)

  -- the positions of all lines, one behind the other
  position : (q : ℕ) → q < columns a + rows a → word_at b (header_size + 2 * q) ≡ word_at a (header_size + 2 * q)
  position q h = elim (dec_lt q (columns a)) [
    | yes l ↦ lines.same_x q l
    | no l ↦
        let at : header_size + 2 * columns a + 2 * (q - columns a) ≡ header_size + 2 * q = omega arith in
        rw (lines.same_columns, at) at (lines.same_y (q - columns a) (omega arith))
  ]

  line_byte : (k : ℕ) → header_size ≤ k → k < nodes_offset a → byte_at b k ≡ byte_at a k
  unfolding Bytes
  line_byte k l h =
      let q = (k - header_size) / 2 in
      let (low, high) = word_parts (bb (header_size + 2 * q)) (ba (header_size + 2 * q)) (position q (omega arith)) in
      elim (dec_lt (header_size + 2 * q) k) [
        | yes odd ↦ let at : header_size + 2 * q + 1 ≡ k = omega arith in rw at at high
        | no even ↦ let at : header_size + 2 * q ≡ k = omega arith in rw at at low
      ]

  same_front : SameFront a b
  same_front = record { bytes = λ k h. elim (dec_lt k header_size) [ yes l ↦ header k l | no l ↦ line_byte k (omega arith) h ] }

-- ---- the nodes

node_bytes_lem : (s : List ℕ) → WellFormed s → Bytes s → (i j : ℕ) → i < columns s → j < rows s → encoded (node_at s i j) ≡ node_bytes s i j
unfolding node_at
node_bytes_lem s w bytes i j h k =
    let o = node_offset s i j in
    encoding_laws.encoded_decoded _ (stretch_bytes s o node_size bytes) (stretch_length s o node_size (node_fits s (le_of_eq (sym w.whole)) i j h k))

pub same_bytes_lem : (a b : List ℕ) → OnSameLines a b → Bytes a → Bytes b → ((i j : ℕ) → i < columns a → j < rows a → node_at b i j ≡ node_at a i j) → b ≡ a
same_bytes_lem a b p ba bb nodes =
    let wa = accepted_laws.sound a p.first_accepted in
    let wb = accepted_laws.sound b p.second_accepted in
    let m = p.lines.same_columns in
    let n = p.lines.same_rows in
    sym (assembly_laws.itself b wb.whole)
    ∙ same_assembled (same_front wa wb p.lines ba bb) (omega (arith, wa.whole)) (omega (arith, wb.whole, m, n))
    (λ i j h k. sym (node_bytes_lem b wb bb i j (rw m h) (rw n k)) ∙ ap encoded (nodes i j h k) ∙ node_bytes_lem a wa ba i j h k)
    ∙ assembly_laws.itself a wa.whole
