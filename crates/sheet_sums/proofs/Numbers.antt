-- The numbers of two poolable sheets: each is in range, and their sums, three by three, are the pool's nodes. Assumes nothing.
use Prim.Native.Nat.{ℕ, ◌+◌, ◌*◌}
use mathlib.Core.Path.{◌≡◌, refl, sym, ◌∙◌, ap, ap₂}
use mathlib.Core.List.{List}
use mathlib.Core.Bool.{not}
use borrow.Author.Tests.{not-false}
use native.Mathlib.Omega.{arith}
use lib.IntN.{ℤ}
use lib.ListN.{take, drop}
use lib.Seq.{drop_at, length-take-le}
use Rattle.sheet_words.specs.Word.{word_at, signed, bytes_of}
use Rattle.sheet_layout.specs.Some.{some}
use Rattle.sheet_layout.specs.Format.{columns, rows, encoded, slope_bytes, slope_in, nodes_offset, node_at}
use Rattle.sheet_layout.proofs.Gathered.{some_cong}
use Rattle.sheet_layout.proofs.NodeRange.{slope_in_lem}
use Rattle.sheet_layout.proofs.NodeWords.{node_from, by_threes, some_numbers, node_numbers_lem, number_of, some_out}
use Rattle.sheet_layout.proofs.Some.{some_false_at}
use Rattle.sheet_calls.specs.Refusals.{wrong_nodes, wrong_numbers, Accepted}
use Rattle.sheet_calls.proofs.WellFormed.{accepted_laws, lines_there}
use Rattle.sheet_assembly.specs.Assembled.{in_order, assembled}
use Rattle.sheet_assembly.proofs.InOrder.{in_order_same, in_order_rows}
use Rattle.sheet_pool.specs.Pool.{added, pooled_node, pooled, some_sum_out}
use Rattle.sheet_calls.specs.OnSameLines.{OnSameLines}
use Rattle.sheet_sums.specs.Sums.{sum_at, sum_bytes, Ranged}

-- ---- in range

ranged : {s : List ℕ} → Accepted s → Ranged s (nodes_offset s) (3 * (columns s * rows s))
unfolding wrong_nodes
ranged {s} a = record {
  there = omega (arith, (accepted_laws.sound s a).whole);
  small = λ k h. (slope_in_lem _).0 (not-false _ (some_false_at (λ k. not (slope_in (number_of s k))) _ (some_out s ∙ a.six) k h));
}

-- ---- the sums

module _ {a b : List ℕ} (p : OnSameLines a b) where
  abbrev sum : ℕ → ℤ
  sum k = sum_at a b (nodes_offset a + 2 * k)

  same_offset : nodes_offset b ≡ nodes_offset a
  same_offset = rw (p.lines.same_columns, p.lines.same_rows) refl

  second_ranged : Ranged b (nodes_offset a) (3 * (columns a * rows a))
  second_ranged = rw (same_offset, p.lines.same_columns, p.lines.same_rows) at (ranged p.second_accepted)

  -- what the loops ask, from the offset and the count that the code has
  pub both_ranged : {o n : ℕ} → o ≡ nodes_offset a → n ≡ columns a * rows a → Ranged a o (3 * n) × Ranged b o (3 * n)
  both_ranged e f = rw (e, f) (ranged p.first_accepted, second_ranged)

  second_node : (i j : ℕ) → node_at b i j ≡ node_from (λ k. signed (word_at b (nodes_offset a + 2 * k))) ((j * columns a + i) * 3)
  second_node i j = rw (same_offset, p.lines.same_columns) at (node_numbers_lem b i j)

  pooled_node_lem : (i j : ℕ) → pooled_node a b i j ≡ node_from sum ((j * columns a + i) * 3)
  unfolding pooled_node added sum_at
  pooled_node_lem i j = ap₂ added (node_numbers_lem a i j) (second_node i j)

  pub some_sum : some (λ k. not (slope_in (sum k))) (3 * (columns a * rows a)) ≡ some_sum_out a b
  unfolding some_sum_out wrong_numbers
  some_sum =
      some_numbers sum (columns a) (rows a)
      ∙ some_cong _ _ (rows a) (λ j k. some_cong _ _ (columns a) (λ i h. ap wrong_numbers (sym (pooled_node_lem i j))))

  -- three sums are a node's bytes
  node_sums : (i j : ℕ) → in_order (λ k. sum_bytes a b (nodes_offset a) ((j * columns a + i) * 3 + k)) 3 ≡ encoded (pooled_node a b i j)
  unfolding in_order sum_bytes encoded slope_bytes bytes_of
  node_sums i j = rw (pooled_node_lem i j) refl

  pub all_sums : in_order (sum_bytes a b (nodes_offset a)) (3 * (columns a * rows a)) ≡ drop (nodes_offset a) (pooled a b)
  unfolding pooled assembled
  all_sums =
      let m = columns a in
      let n = rows a in
      rw (by_threes m n, in_order_rows (sum_bytes a b (nodes_offset a)) 3 (n * m), in_order_rows (λ k. in_order (λ i. sum_bytes a b (nodes_offset a) (k * 3 + i)) 3) m n)
      (in_order_same _ _ n (λ j k. in_order_same _ _ m (λ i h. node_sums i j))
      ∙ sym (drop_at (take (nodes_offset a) a) _ (nodes_offset a) (length-take-le (nodes_offset a) a (lines_there a p.first_accepted))))
