-- What a sheet put together is: its length, its bytes before the nodes, and each node's. Assumes nothing.
use Prim.Native.Nat.{ℕ, ◌+◌, ◌*◌, ◌≤◌, ◌<◌}
use mathlib.Core.Path.{◌≡◌, sym, ◌∙◌, ap}
use mathlib.Core.List.{List, ◌++◌}
use mathlib.Core.Bool.{true}
use native.Mathlib.Nat.{mul-suc, mul_comm, mul_assoc, mul-le-mul_left}
use native.Mathlib.Omega.{arith}
use lib.ListN.{length, take, drop, length-append, length-drop, get_or-append}
use lib.Seq.{length-take-le, get_or-take, drop-drop, take_all, take-add}
use Rattle.sheet_words.specs.Word.{byte_at, Bytes}
use Rattle.sheet_words.proofs.Bytes.{bytes_append}
use Rattle.sheet_words.proofs.Replaced.{stretch_bytes}
use Rattle.sheet_layout.specs.Format.{columns, rows, decoded, node_in, node_size, nodes_offset, node_offset, node_bytes, node_at, stated_size}
use Rattle.sheet_layout.proofs.SameFront.{SameFront, same_columns_lem, same_rows_lem, same_offset}
use Rattle.sheet_layout.proofs.SameLines.{front_lines}
use Rattle.sheet_calls.specs.Refusals.{Accepted}
use Rattle.sheet_calls.proofs.Ranges.{node_in_range}
use Rattle.sheet_calls.proofs.WellFormed.{accepted_laws}
use Rattle.sheet_calls.proofs.StaysWellFormed.{same_well_formed}
use Rattle.sheet_assembly.specs.Assembled.{in_order, assembled, Whole, AssemblyLaws}
use Rattle.sheet_assembly.proofs.InOrder.{in_order_length, in_order_at, in_order_same, in_order_bytes, in_order_stretches}
use Rattle.sheet_assembly.proofs.Stretches.{inner_stretch, drop_past, same_take}

-- the bytes of row j, and those of all rows
abbrev row : List ℕ → (ℕ → ℕ → List ℕ) → ℕ → List ℕ
row s b j = in_order (λ i. b i j) (columns s)

abbrev body : List ℕ → (ℕ → ℕ → List ℕ) → List ℕ
body s b = in_order (row s b) (rows s)

module _ {s : List ℕ} {b : ℕ → ℕ → List ℕ} (whole : Whole s b) where
  row_length : (j : ℕ) → j < rows s → length (row s b j) ≡ node_size * columns s
  row_length j k = in_order_length (λ i. b i j) node_size (columns s) (λ i h. whole.nodes i j h k)

  body_length : length (body s b) ≡ node_size * columns s * rows s
  body_length = in_order_length (row s b) (node_size * columns s) (rows s) row_length

  lines_length : length (take (nodes_offset s) s) ≡ nodes_offset s
  lines_length = length-take-le (nodes_offset s) s whole.lines

  size : length (assembled s b) ≡ stated_size s
  unfolding assembled
  size = omega (arith, length-append (take (nodes_offset s) s) (body s b), lines_length, body_length, mul_assoc node_size (columns s) (rows s))

  -- ---- before the nodes

  front : (k : ℕ) → k < nodes_offset s → byte_at (assembled s b) k ≡ byte_at s k
  unfolding assembled
  front k h = get_or-append (take (nodes_offset s) s) (body s b) 0 k (omega (arith, lines_length)) ∙ get_or-take (nodes_offset s) s k 0 h

  pub assembled_front : SameFront s (assembled s b)
  assembled_front = record { bytes = front }

  -- ---- the nodes

  -- the rows lie behind the lines, row j behind those before it
  from_body : (n : ℕ) → drop (nodes_offset s + n) (assembled s b) ≡ drop n (body s b)
  unfolding assembled
  from_body n = drop_past (take (nodes_offset s) s) (body s b) (nodes_offset s) n lines_length

  module _ (i j : ℕ) (h : i < columns s) (k : j < rows s) where
    row_fits : node_size * columns s * j + node_size * columns s ≤ length (body s b)
    row_fits = omega (arith, body_length, mul-suc (node_size * columns s) j, mul-le-mul_left (node_size * columns s) k)

    place : node_size * (j * columns s + i) ≡ node_size * columns s * j + node_size * i
    place = omega (arith, mul_assoc node_size (columns s) j, mul_comm (columns s) j)

    -- the row's bytes, then the node's in it
    in_row : take node_size (drop (node_size * (j * columns s + i)) (body s b)) ≡ take node_size (drop (node_size * i) (row s b j))
    in_row =
        let m = node_size * columns s in
        let rest = drop (m * j) (body s b) in
        ap (λ n. take node_size (drop n (body s b))) place
        ∙ ap (take node_size) (sym (drop-drop (node_size * i) (m * j) (body s b)))
        ∙ sym (inner_stretch rest m (node_size * i) node_size (omega (arith, row_fits, length-drop (m * j) (body s b))) (omega arith))
        ∙ ap (λ r. take node_size (drop (node_size * i) r)) (in_order_at (row s b) m (rows s) row_length j k)

    nodes : node_bytes (assembled s b) i j ≡ b i j
    nodes =
        ap (λ at. take node_size (drop at (assembled s b))) (same_offset assembled_front i j)
        ∙ ap (take node_size) (from_body _)
        ∙ in_row
        ∙ in_order_at (λ i. b i j) node_size (columns s) (λ i h. whole.nodes i j h k) i h

    numbers : node_at (assembled s b) i j ≡ decoded (b i j)
    unfolding node_at
    numbers = ap decoded nodes

  accepted : Accepted s → ((i j : ℕ) → i < columns s → j < rows s → node_in (decoded (b i j)) ≡ true) → Accepted (assembled s b)
  accepted a inside =
      let w = accepted_laws.sound s a in
      accepted_laws.complete _
      (same_well_formed assembled_front w (size ∙ sym w.whole) (λ i j h k. rw (numbers i j h k) ((node_in_range _).0 (inside i j h k))))

-- ---- of two sheets with the same bytes before the nodes, from the same nodes

pub same_assembled : {s r : List ℕ} {b c : ℕ → ℕ → List ℕ} → SameFront s r → nodes_offset s ≤ length s → nodes_offset s ≤ length r
    → ((i j : ℕ) → i < columns s → j < rows s → c i j ≡ b i j) → assembled r c ≡ assembled s b
unfolding assembled
same_assembled {s} {r} {b} {c} same h h' nodes =
    let lines = same_take s r (nodes_offset s) h h' same.bytes in
    let rest = in_order_same (row s c) (row s b) (rows s) (λ j k. in_order_same _ _ (columns s) (λ i h. nodes i j h k)) in
    rw (same_columns_lem same, same_rows_lem same) (λ i. lines i ++ rest i)

-- ---- of its own nodes

bytes : (s : List ℕ) (b : ℕ → ℕ → List ℕ) → Bytes s → ((i j : ℕ) → i < columns s → j < rows s → Bytes (b i j)) → Bytes (assembled s b)
unfolding assembled
bytes s b front nodes =
    bytes_append (take (nodes_offset s) s) (body s b) (stretch_bytes s 0 (nodes_offset s) front)
    (in_order_bytes (row s b) (rows s) (λ j k. in_order_bytes _ (columns s) (λ i h. nodes i j h k)))

module _ (s : List ℕ) where
  own_row : (j : ℕ) → row s (node_bytes s) j ≡ take (node_size * columns s) (drop (nodes_offset s + node_size * columns s * j) s)
  own_row j =
      in_order_same _ _ (columns s) (λ i h. ap (λ at. take node_size (drop at s)) (along i))
      ∙ in_order_stretches s (nodes_offset s + node_size * columns s * j) node_size (columns s)
    where
      along : (i : ℕ) → node_offset s i j ≡ nodes_offset s + node_size * columns s * j + node_size * i
      along i = omega (arith, mul_assoc node_size (columns s) j, mul_comm (columns s) j)

  own_body : body s (node_bytes s) ≡ take (node_size * columns s * rows s) (drop (nodes_offset s) s)
  own_body = in_order_same _ _ (rows s) (λ j k. own_row j) ∙ in_order_stretches s (nodes_offset s) (node_size * columns s) (rows s)

  itself : length s ≡ stated_size s → assembled s (node_bytes s) ≡ s
  unfolding assembled
  itself e =
      rw (own_body, ← take-add (nodes_offset s) (node_size * columns s * rows s) s)
      (take_all (nodes_offset s + node_size * columns s * rows s) s (omega (arith, e, mul_assoc node_size (columns s) (rows s))))

pub assembly_laws : AssemblyLaws
assembly_laws = record {
  size = λ s b. size;
  front = λ s b. front;
  lines = λ s b whole. front_lines (assembled_front whole);
  nodes = λ s b. nodes;
  numbers = λ s b. numbers;
  accepted = λ s b. accepted;
  bytes = bytes;
  itself = itself;
}
