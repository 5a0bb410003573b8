-- What setting a node does to a sheet. Assumes nothing.
use Prim.Native.Nat.{ℕ, ◌+◌, ◌≤◌, ◌<◌}
use mathlib.Core.Path.{◌≡◌, refl, sym, ◌∙◌}
use mathlib.Core.List.{List}
use mathlib.Core.Bool.{true}
use native.Mathlib.Decide.{ℕ_discrete}
use native.Mathlib.Omega.{arith}
use lib.ListN.{length}
use borrow.Author.Tests.{eq-eqb, ne_eqb}
use Rattle.sheet_words.specs.Word.{byte_at, Bytes}
use Rattle.sheet_words.proofs.Replaced.{replaced_bytes}
use Rattle.sheet_layout.specs.Format.{columns, rows, Node, encoded, node_in, node_size, node_offset, node_at}
use Rattle.sheet_calls.specs.Refusals.{lookup_refusal, setting_refusal, Accepted}
use Rattle.sheet_calls.specs.Calls.{looked_up, bytes_in, with_node}
use Rattle.sheet_calls.specs.WellFormed.{WellFormed}
use Rattle.sheet_calls.specs.NodeLaws.{Leaves, ReadsBack, SettingLaws}
use Rattle.sheet_calls.proofs.Chains.{HasNode, lookup_held, lookup_taken, setting_held, setting_taken}
use Rattle.sheet_calls.proofs.Ranges.{node_in_range}
use Rattle.sheet_calls.proofs.WellFormed.{accepted_laws}
use Rattle.sheet_layout.proofs.Encoding.{encoded_bytes, encoding_laws}
use Rattle.sheet_calls.proofs.Lookup.{has_fits}
use Rattle.sheet_layout.proofs.SameFront.{SameFront, same_columns_lem, same_rows_lem}
use Rattle.sheet_layout.proofs.SameLines.{front_lines}
use Rattle.sheet_layout.proofs.Written.{written, written_length, written_before, written_after, written_bytes, written_node, written_others, written_again, written_same}
use Rattle.sheet_calls.proofs.StaysWellFormed.{written_well_formed}

-- ---- set or refused

pub set_is : (s : List ℕ) (i j : ℕ) (v : Node) → setting_refusal s i j v ≡ 0 → with_node s i j v ≡ written s i j v
unfolding with_node
set_is s i j v e = rw (eq-eqb _ _ e) refl

pub refused_is : (s : List ℕ) (i j : ℕ) (v : Node) → ¬ (setting_refusal s i j v ≡ 0) → with_node s i j v ≡ s
unfolding with_node
refused_is s i j v e = rw (ne_eqb _ _ e) refl

-- what holds of the sheet as it was and as written holds of what setting leaves
with_node_ind : (s : List ℕ) (i j : ℕ) (v : Node) (P : List ℕ → Type 0) → P s → (HasNode s i j → node_in v ≡ true → P (written s i j v)) → P (with_node s i j v)
with_node_ind s i j v P old new =
    elim (ℕ_discrete (setting_refusal s i j v) 0) [
      | yes e ↦ let (h, n) = setting_held s i j v e in rw (set_is s i j v e) (new h n)
      | no e ↦ rw (refused_is s i j v e) old
    ]

well_formed : {s : List ℕ} {i j : ℕ} → HasNode s i j → WellFormed s
well_formed {s} h = accepted_laws.sound s h.accepted

module _ (s : List ℕ) (i j : ℕ) (v : Node) where
  size : length (with_node s i j v) ≡ length s
  size = with_node_ind s i j v (λ t. length t ≡ length s) refl (λ h n. written_length s i j v (has_fits h))

  before : (k : ℕ) → k < node_offset s i j → byte_at (with_node s i j v) k ≡ byte_at s k
  before k l = with_node_ind s i j v (λ t. byte_at t k ≡ byte_at s k) refl (λ h n. written_before s i j v (has_fits h) k l)

  after : (k : ℕ) → node_offset s i j + node_size ≤ k → byte_at (with_node s i j v) k ≡ byte_at s k
  after k l = with_node_ind s i j v (λ t. byte_at t k ≡ byte_at s k) refl (λ h n. written_after s i j v (has_fits h) k l)

  -- ---- the lines stay

  front : SameFront s (with_node s i j v)
  front = record { bytes = λ k l. before k (omega arith) }

  bytes : Bytes s → Bytes (with_node s i j v)
  bytes b = with_node_ind s i j v Bytes b (λ h n. replaced_bytes s (node_offset s i j) (encoded v) b (encoded_bytes v n))

  accepted : Accepted s → Accepted (with_node s i j v)
  accepted a =
      with_node_ind s i j v Accepted a (λ h n. accepted_laws.complete _ (written_well_formed i j v (well_formed h) h.column h.row n))

  columns_stay : columns (with_node s i j v) ≡ columns s
  columns_stay = same_columns_lem front

  rows_stay : rows (with_node s i j v) ≡ rows s
  rows_stay = same_rows_lem front

  still_has : {i' j' : ℕ} → HasNode s i' j' → HasNode (with_node s i j v) i' j'
  still_has h = record { accepted = accepted h.accepted; column = rw columns_stay h.column; row = rw rows_stay h.row }

  -- ---- the node reads back

  reads_back_lem : setting_refusal s i j v ≡ 0 → ReadsBack i j v (with_node s i j v)
  unfolding looked_up
  reads_back_lem e =
      let (has, n) = setting_held s i j v e in
      let found = lookup_taken (still_has has) in
      let bytes : bytes_in (with_node s i j v) (looked_up (with_node s i j v) i j) ≡ encoded v = rw (eq-eqb _ _ found, set_is s i j v e) (written_bytes s i j v (has_fits has)) in
      record {
        numbers = rw (set_is s i j v e) (written_node s i j v (has_fits has) n);
        found = found;
        handed_back = bytes;
        decodes = rw bytes (encoding_laws.decoded_encoded v n);
      }

  -- ---- the others stay

  others : (i' j' : ℕ) → i' < columns s → ((i' ≡ i) × (j' ≡ j) → ⊥) → node_at (with_node s i j v) i' j' ≡ node_at s i' j'
  others i' j' l other =
      with_node_ind s i j v (λ t. node_at t i' j' ≡ node_at s i' j') refl (λ h n. written_others s i j v (has_fits h) i' j' h.column l other)

-- ---- setting twice, and setting what is there

twice : (s : List ℕ) (i j : ℕ) (v w : Node) → setting_refusal s i j w ≡ 0 → with_node (with_node s i j v) i j w ≡ with_node s i j w
twice s i j v w e =
    let (h, n) = setting_held s i j w e in
    set_is _ i j w (setting_taken w (still_has s i j v h) n)
    ∙ with_node_ind s i j v (λ t. written t i j w ≡ written s i j w) refl (λ h n. written_again s i j v (has_fits h) w)
    ∙ sym (set_is s i j w e)

same : (s : List ℕ) (i j : ℕ) → Bytes s → with_node s i j (node_at s i j) ≡ s
same s i j bytes = with_node_ind s i j (node_at s i j) (λ t. t ≡ s) refl (λ h n. written_same s i j (has_fits h) bytes)

same_taken_lem : (s : List ℕ) (i j : ℕ) → lookup_refusal s i j ≡ 0 → setting_refusal s i j (node_at s i j) ≡ 0
same_taken_lem s i j e =
    let h = lookup_held s i j e in
    setting_taken (node_at s i j) h ((node_in_range (node_at s i j)).1 ((well_formed h).ranges i j h.column h.row))

leaves : (s : List ℕ) (i j : ℕ) (v : Node) → Leaves s i j (with_node s i j v)
leaves s i j v = record {
  size = size s i j v;
  before = before s i j v;
  after = after s i j v;
  bytes = bytes s i j v;
  accepted = accepted s i j v;
  lines = front_lines (front s i j v);
  others = others s i j v;
}

pub setting_laws : SettingLaws
setting_laws = record { leaves = leaves; refused = refused_is; reads_back = reads_back_lem; twice = twice; same = same; same_taken = same_taken_lem }
