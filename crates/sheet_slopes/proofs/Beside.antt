-- Filling leaves every byte but the last four of each node. Assumes nothing.
use Prim.Native.Nat.{ℕ, ◌+◌, ◌*◌, ◌-◌, ◌/◌, ◌%◌, ◌≤◌, ◌<◌}
use mathlib.Core.Path.{◌≡◌, sym, ◌∙◌, ap}
use mathlib.Core.List.{List}
use native.Mathlib.Nat.{div-add-mod', mod-lt, div-lt_iff_lt-mul, mul_comm}
use native.Mathlib.Decide.{ℕ_discrete, dec_lt}
use native.Mathlib.Omega.{arith}
use lib.ListN.{length, get_or-eq_default}
use Rattle.sheet_words.specs.Word.{byte_at}
use Rattle.sheet_layout.specs.Format.{columns, rows, height_size, nodes_offset, node_size, node_offset, stated_size}
use Rattle.sheet_slopes.specs.Slopes.{slope_refusal, with_slopes, SameHeights}
use Rattle.sheet_slopes.specs.InPlace.{Fillable}
use Rattle.sheet_slopes.proofs.Chain.{refused_is}
use Rattle.sheet_slopes.proofs.Fillable.{fillable}
use Rattle.sheet_slopes.proofs.Filled.{filled}

-- byte b of the nodes is byte r of the node at column i and row j
record Held (s : List ℕ) (b : ℕ) : Type 0 where
  i : ℕ
  j : ℕ
  r : ℕ
  column : i < columns s
  row : j < rows s
  byte : r < node_size
  there : b ≡ node_offset s i j + r

held : (s : List ℕ) (b : ℕ) → 0 < columns s → nodes_offset s ≤ b → b < stated_size s → Held s b
held s b some h l =
    let d = b - nodes_offset s in
    let q = d / node_size in
    let m = columns s in
    let whole : q * node_size + d % node_size ≡ d = div-add-mod' d node_size in
    let byte : d % node_size < node_size = mod-lt d (omega arith) in
    let index : q / m * m + q % m ≡ q = div-add-mod' q m in
    let below : q < m * rows s = omega arith in
    record {
      i = q % m;
      j = q / m;
      r = d % node_size;
      column = mod-lt q some;
      row = (div-lt_iff_lt-mul some).1 (rw (mul_comm (rows s) m) below);
      byte = byte;
      there = omega (arith, whole, index);
    }

same_beside : {s u : List ℕ} {t : ℕ} → Fillable s t → SameHeights s u → (b : ℕ)
    → ((i j c : ℕ) → i < columns s → j < rows s → c < 4 → ¬ (b ≡ node_offset s i j + height_size + c)) → byte_at u b ≡ byte_at s b
same_beside {s} {u} f same b outside =
    elim (dec_lt b (nodes_offset s)) [
      | yes l ↦ same.front b l
      | no k ↦ elim (dec_lt b (length s)) [
        | no behind ↦
            get_or-eq_default u 0 {n = b} (omega (arith, same.size)) ∙ sym (get_or-eq_default s 0 {n = b} (omega arith))
        | yes l ↦
            let x = held s b (omega (arith, f.few_columns)) (omega arith) (omega (arith, f.whole)) in
            let (low, high) = same.heights x.i x.j x.column x.row in
            at_byte x low high
      ]
    ]
  where
    at_byte : (x : Held s b) → byte_at u (node_offset s x.i x.j) ≡ byte_at s (node_offset s x.i x.j)
        → byte_at u (node_offset s x.i x.j + 1) ≡ byte_at s (node_offset s x.i x.j + 1) → byte_at u b ≡ byte_at s b
    at_byte x low high =
        elim (ℕ_discrete x.r 0) [
          | yes z ↦ let e : b ≡ node_offset s x.i x.j = omega (arith, x.there, z) in rw e low
          | no p ↦ elim (ℕ_discrete x.r 1) [
            | yes z ↦ let e : b ≡ node_offset s x.i x.j + 1 = omega (arith, x.there, z) in rw e high
            | no q ↦ absurd (outside x.i x.j (x.r - 2) x.column x.row (omega (arith, x.byte)) (omega (arith, x.there)))
          ]
        ]

pub beside : (s : List ℕ) (t b : ℕ) → ((i j c : ℕ) → i < columns s → j < rows s → c < 4 → ¬ (b ≡ node_offset s i j + height_size + c)) →
    byte_at (with_slopes s t) b ≡ byte_at s b
beside s t b outside =
    elim (ℕ_discrete (slope_refusal s t) 0) [
      | yes e ↦ same_beside (fillable s t e) (filled s t e).same b outside
      | no h ↦ ap (λ u. byte_at u b) (refused_is s t h)
    ]
