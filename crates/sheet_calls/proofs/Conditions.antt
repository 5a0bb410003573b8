-- What each condition says: the facts that hold exactly where it does not. Assumes nothing.
use Prim.Native.Nat.{ℕ, zero, suc, ◌+◌, ◌*◌, ◌-◌, ◌≤◌, ◌<◌}
use mathlib.Core.Path.{◌≡◌, refl, ◌∙◌, ap}
use mathlib.Core.Logic.{◌↔◌}
use mathlib.Core.List.{List}
use mathlib.Core.Bool.{true, false, not, ◌&&◌}
use native.Mathlib.Omega.{arith}
use lib.ListN.{length}
use lib.Dec.{eqb, lit<}
use borrow.Author.Tests.{ne_eqb, eqb-false}
use Rattle.sheet_words.specs.Word.{byte_at, signed}
use Rattle.sheet_words.proofs.Replaced.{stretch_byte}
use Rattle.sheet_layout.specs.Format.{header_size, marked, version, supported, columns, rows, count_in, reserved, line_x, line_y, decoded, node_size, node_offset, node_bytes, node_at, stated_size, some_node_out}
use Rattle.sheet_calls.specs.Refusals.{other_mark, other_version, other_counts, other_length, wrong_lines, wrong_nodes, outside, off_mesh, empty_run, other_kind, no_node, wrong_numbers}
use Rattle.sheet_calls.specs.WellFormed.{Rising, InRange, Inside, ConditionLaws}
use Rattle.sheet_layout.proofs.Meaning.{ltb_fails, leb_fails, not_fails, or_fails, leb_holds, eqb_holds, and_holds}
use Rattle.sheet_layout.proofs.Some.{some_fails}
use Rattle.sheet_calls.proofs.Ranges.{lines_rise, node_in_range}

-- ---- of a sheet

-- what 01 says of a count of lines
abbrev Counted : ℕ → Type 0
Counted n = (2 ≤ n) × (n ≤ 65)

count_in_lem : (n : ℕ) → (count_in n ≡ true) ↔ Counted n
unfolding count_in
count_in_lem n = and_holds (leb_holds 2 n) (leb_holds n 65)

-- ---- what each of the six tests says where it fails

module _ (s : List ℕ) where
  mark_right : (other_mark s ≡ false) ↔ ((header_size ≤ length s) × (((byte_at s 0 ≡ 0x4C) × (byte_at s 1 ≡ 0x56)) × (byte_at s 2 ≡ 0x53)))
  unfolding other_mark marked
  mark_right =
      or_fails (ltb_fails (length s) header_size)
      (not_fails (and_holds (and_holds (eqb_holds (byte_at s 0) 0x4C) (eqb_holds (byte_at s 1) 0x56)) (eqb_holds (byte_at s 2) 0x53)))

  version_right : (other_version s ≡ false) ↔ (version s ≡ 1)
  unfolding other_version supported
  version_right = not_fails (eqb_holds (version s) 1)

  counts_right : (other_counts s ≡ false) ↔ ((Counted (columns s) × Counted (rows s)) × (reserved s ≡ 0))
  unfolding other_counts
  counts_right = or_fails (or_fails (not_fails (count_in_lem (columns s))) (not_fails (count_in_lem (rows s)))) (not_fails (eqb_holds (reserved s) 0))

  length_right : (other_length s ≡ false) ↔ (length s ≡ stated_size s)
  unfolding other_length
  length_right = not_fails (eqb_holds (length s) (stated_size s))

  lines_right : (wrong_lines s ≡ false) ↔ (Rising (line_x s) (columns s) × Rising (line_y s) (rows s))
  unfolding wrong_lines
  lines_right = or_fails (lines_rise (line_x s) (columns s)) (lines_rise (line_y s) (rows s))

  nodes_right : (wrong_nodes s ≡ false) ↔ ((j : ℕ) → j < rows s → (i : ℕ) → i < columns s → InRange (node_at s i j))
  unfolding wrong_nodes some_node_out
  nodes_right = some_fails (rows s) (λ j. some_fails (columns s) (λ i. not_fails (node_in_range (node_at s i j))))

-- ---- of a call's other input

inside_right : (s : List ℕ) (x y : ℕ) → (outside s x y ≡ false) ↔ Inside s x y
unfolding outside
inside_right s x y =
    let h = or_fails (or_fails (or_fails (ltb_fails x (line_x s 0)) (ltb_fails (line_x s (columns s - 1)) x)) (ltb_fails y (line_y s 0))) (ltb_fails (line_y s (rows s - 1)) y) in
    (λ e. let (((l, r), t), b) = h.0 e in record { left = l; right = r; top = t; bottom = b }, λ i. h.1 (((i.left, i.right), i.top), i.bottom))

last_right : (s : List ℕ) (x y count : ℕ) → (not (eqb count 0) && outside s (x + count - 1) y ≡ false) ↔ ((k : ℕ) → count ≡ k + 1 → Inside s (x + k) y)
last_right s x y zero = (λ e k q. absurd (omega (arith, q)), λ f. refl)
last_right s x y (suc n) =
    let filled : eqb (suc n) 0 ≡ false = ne_eqb (suc n) 0 (λ e. omega arith) in
    let last : x + suc n - 1 ≡ x + n = omega arith in
    rw (filled, last) (
      λ e k q. let n-is : k ≡ n = omega (arith, q) in rw n-is ((inside_right s (x + n) y).0 e),
      λ f. (inside_right s (x + n) y).1 (f n (omega arith)),
    )

empty_right : (count : ℕ) → (empty_run count ≡ false) ↔ (0 < count)
unfolding empty_run
empty_right count = (λ e. let h : ¬ (count ≡ 0) = eqb-false count 0 e in omega arith, λ l. ne_eqb count 0 (λ e. omega arith))

-- byte n of the node that starts at index k
node_byte : (s : List ℕ) (i j k n w : ℕ) → k ≡ node_offset s i j → n < node_size → k + n ≡ w → byte_at (node_bytes s i j) n ≡ byte_at s w
node_byte s i j k n w e h q = let at : node_offset s i j + n ≡ w = omega (arith, e, q) in stretch_byte s (node_offset s i j) node_size n h ∙ ap (byte_at s) at

node_numbers_lem : (s : List ℕ) (i j k : ℕ) → k ≡ node_offset s i j →
    ((node_at s i j).stored_height ≡ signed (byte_at s k + byte_at s (k + 1) * 256)) × ((node_at s i j).slope_x ≡ signed (byte_at s (k + 2) + byte_at s (k + 3) * 256))
    × ((node_at s i j).slope_y ≡ signed (byte_at s (k + 4) + byte_at s (k + 5) * 256))
unfolding node_at decoded
node_numbers_lem s i j k e =
    let low = node_byte s i j k 0 k e (lit< tt) (omega arith) in
    let at : (n : ℕ) → n < node_size → byte_at (node_bytes s i j) n ≡ byte_at s (k + n) = λ n h. node_byte s i j k n (k + n) e h refl in (
      λ t. signed (low t + at 1 (lit< tt) t * 256),
      λ t. signed (at 2 (lit< tt) t + at 3 (lit< tt) t * 256),
      λ t. signed (at 4 (lit< tt) t + at 5 (lit< tt) t * 256),
    )

pub condition_laws : ConditionLaws
unfolding off_mesh other_kind no_node wrong_numbers
condition_laws = record {
  one = λ s. (λ e. let (l, ((a, b), c)) = (mark_right s).0 e in (l, a, b, c), λ h. (mark_right s).1 (h.0, ((h.1, h.2), h.3)));
  two = version_right;
  three = λ s. (λ e. let ((m, n), z) = (counts_right s).0 e in (m.0, m.1, n.0, n.1, z), λ h. (counts_right s).1 (((h.0, h.1), (h.2, h.3)), h.4));
  four = length_right;
  five = lines_right;
  six = nodes_right;
  seven = inside_right;
  seven_of_run = λ s x y count. or_fails (inside_right s x y) (last_right s x y count);
  eight = empty_right;
  nine = λ kind. ltb_fails 2 kind;
  ten = λ s i j. or_fails (leb_fails (columns s) i) (leb_fails (rows s) j);
  eleven = λ v. not_fails (node_in_range v);
  byte = λ s i. refl;
  column_count = λ s. refl;
  row_count = λ s. refl;
  x_position = λ s i. refl;
  y_position = λ s j. refl;
  node_numbers = node_numbers_lem;
}
