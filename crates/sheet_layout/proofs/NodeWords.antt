-- The numbers of a sheet's nodes, one after the other, and their range. Assumes nothing.
use Prim.Native.Nat.{ℕ, suc, ◌+◌, ◌*◌, ◌-◌, ◌≤◌, ◌<◌}
use mathlib.Core.Path.{◌≡◌, refl, sym, ◌∙◌, ap}
use mathlib.Core.List.{List}
use mathlib.Core.Bool.{Bool, true, false, not, ◌&&◌, ◌||◌, or-false}
use native.Mathlib.Nat.{mul_comm}
use native.Mathlib.Omega.{arith}
use lib.Dec.{leb, ltb, ltb→lt, nltb→le, lit<}
use lib.IntN.{ℤ, pos, negsuc, nat_abs}
use borrow.Author.Tests.{leb-true, le-leb, lt-leb}
use Rattle.integers.proofs.Order.{cond_ind}
use Rattle.sheet_words.specs.Word.{word_at, signed}
use Rattle.sheet_words.proofs.Replaced.{stretch_word}
use Rattle.sheet_layout.specs.Format.{columns, rows, Node, node, decoded, height_in, slope_in, node_in, nodes_offset, node_size, node_offset, node_bytes, node_at, some_node_out}
use Rattle.sheet_layout.specs.Some.{some}
use Rattle.sheet_layout.proofs.Gathered.{some_cong, some_rows}

-- ---- the range, by the 16 bits

-- tests of facts that follow from each other
same_test : (a b c d : ℕ) → (a ≤ b → c ≤ d) → (c ≤ d → a ≤ b) → leb a b ≡ leb c d
same_test a b c d f g = by (leb a b) refl (leb c d) refl
  where
    by : (x : Bool) → leb a b ≡ x → (y : Bool) → leb c d ≡ y → x ≡ y
    by true e true q = refl
    by true e false q = sym (le-leb c d (f (leb-true a b e))) ∙ q
    by false e true q = sym e ∙ le-leb a b (g (leb-true c d q))
    by false e false q = refl

pub bits_in : (w : ℕ) → w < 65536 → leb w 4095 || leb 61441 w ≡ slope_in (signed w)
unfolding signed slope_in
bits_in w h =
    cond_ind (ltb w 32768) (pos w) (negsuc (65535 - w)) (λ z. leb w 4095 || leb 61441 w ≡ leb (nat_abs z) 4095)
    (λ t. let k = ltb→lt w 32768 t in rw (lt-leb 61441 w (omega (arith, k))) (or-false (leb w 4095)))
    (λ t. let k = nltb→le w 32768 t in
    rw (lt-leb w 4095 (omega (arith, k))) (same_test 61441 w (suc (65535 - w)) 4095 (λ q. omega (arith, q, h)) (λ q. omega (arith, q, h))))

not_and : (a b c : Bool) → not (a && b && c) ≡ not a || not b || not c
not_and true true c = refl
not_and true false c = refl
not_and false b c = refl

-- ---- numbers one after the other, three a node

pub by_threes : (m r : ℕ) → 3 * (m * r) ≡ r * m * 3
by_threes m r = mul_comm 3 _ ∙ ap (λ k. k * 3) (mul_comm m r)

module _ (n : ℕ → ℤ) where
  -- the node that has three of them, from number k on
  abbrev pub node_from : ℕ → Node
  node_from k = node (n (k + 0)) (n (k + 1)) (n (k + 2))

  -- number k is out of range
  abbrev wrong_number : ℕ → Bool
  wrong_number k = not (slope_in (n k))

  wrong_node : (k : ℕ) → not (node_in (node_from k)) ≡ some (λ i. wrong_number (k + i)) 3
  unfolding node_in height_in slope_in some
  wrong_node k = not_and (slope_in (n (k + 0))) (slope_in (n (k + 1))) (slope_in (n (k + 2)))

  -- one loop over all does for loops over r rows of m nodes
  pub some_numbers : (m r : ℕ) → some wrong_number (3 * (m * r)) ≡ some (λ j. some (λ i. not (node_in (node_from ((j * m + i) * 3)))) m) r
  some_numbers m r =
      rw (by_threes m r, some_rows wrong_number 3 (r * m), some_rows (λ k. some (λ i. wrong_number (k * 3 + i)) 3) m r)
      (some_cong _ _ r (λ j k. some_cong _ _ m (λ i h. sym (wrong_node ((j * m + i) * 3)))))

-- ---- those of a sheet

module _ (s : List ℕ) where
  -- number k of all
  abbrev pub number_of : ℕ → ℤ
  number_of k = signed (word_at s (nodes_offset s + 2 * k))

  module _ (i j : ℕ) where
    -- the k-th of a node's numbers, among those of all nodes
    node_number : (k w : ℕ) → 2 * k ≡ w → w + 1 < node_size → signed (word_at (node_bytes s i j) w) ≡ number_of ((j * columns s + i) * 3 + k)
    node_number k w e h =
        let at : node_offset s i j + w ≡ nodes_offset s + 2 * ((j * columns s + i) * 3 + k) = omega (arith, e) in
        ap signed (stretch_word s _ node_size w h ∙ ap (word_at s) at)

    pub node_numbers_lem : node_at s i j ≡ node_from number_of ((j * columns s + i) * 3)
    unfolding node_at decoded
    node_numbers_lem = rw (node_number 0 0 refl (lit< tt), node_number 1 2 refl (lit< tt), node_number 2 4 refl (lit< tt)) refl

  -- one loop over all numbers
  pub some_out : some (λ k. not (slope_in (number_of k))) (3 * (columns s * rows s)) ≡ some_node_out s
  unfolding some_node_out
  some_out =
      some_numbers number_of (columns s) (rows s)
      ∙ some_cong _ _ (rows s) (λ j k. some_cong _ _ (columns s) (λ i h. ap (λ v. not (node_in v)) (sym (node_numbers_lem i j))))
