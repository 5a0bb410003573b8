-- When pooling gives each of its numbers, by what holds of its input. Assumes nothing.
use Prim.Native.Nat.{ℕ, ◌<◌}
use mathlib.Core.Path.{◌≡◌, sym, ◌∙◌, subst}
use mathlib.Core.Logic.Iff
use mathlib.Core.Logic.{◌↔◌}
use mathlib.Core.List.{List, [], ◌∷◌, ◌++◌}
use mathlib.Core.Bool.{false}
use lib.IntN.{ℤ, ◌+ℤ◌, +ℤ_comm}
use lib.ListN.{length}
use Rattle.integers.specs.Within.{◌within◌}
use Rattle.sheet_layout.specs.Format.{columns, rows, node_at}
use Rattle.sheet_layout.specs.SameLines.{SameLines}
use Rattle.sheet_layout.proofs.SameLines.{same_sym}
use Rattle.sheet_calls.specs.Rules.{Rule, rule}
use Rattle.sheet_calls.specs.Refusals.{Accepted}
use Rattle.sheet_calls.specs.WellFormed.{InRange}
use Rattle.sheet_calls.proofs.WellFormed.{accepted_laws}
use Rattle.sheet_pool.specs.Pool.{added, pooled_node, pooled, second_refused, other_lines, other_target, some_sum_out, PoolInput}
use Rattle.sheet_pool.proofs.Chain.{pool_held, pool_taken, pooled_is}
use Rattle.sheet_pool.proofs.Laws.{pool_laws}
use Rattle.light_sheet_demands.specs.CallRecords.{Pool}
use Rattle.light_sheet_demands.specs.Demands.{of_sheet}
use Rattle.light_sheet_demands.specs.Pooling.{SumsInRange}
use Rattle.light_sheet_demands.proofs.Refusals.{pool_gives}
use Rattle.light_sheet_demands.proofs.Numbers.{lacks, number_of, past_sheet}

-- ---- when it is taken

sums_in_range : (a b : List ℕ) → ((j : ℕ) → j < rows a → (i : ℕ) → i < columns a → InRange (pooled_node a b i j)) ↔ SumsInRange a b
unfolding pooled_node added
sums_in_range a b = (
  λ h. record {
    heights = λ i j k l. (h j l i k).stored_height;
    slopes_x = λ i j k l. (h j l i k).slope_x;
    slopes_y = λ i j k l. (h j l i k).slope_y;
  },
  λ s j l i k. record { stored_height = s.heights i j k l; slope_x = s.slopes_x i j k l; slope_y = s.slopes_y i j k l },
)

module _ {a b target p a' b' : List ℕ} {n : ℕ} (c : Pool a b target n p a' b') where
  pub is_taken : (n ≡ 0) ↔ (Accepted a × Accepted b × SameLines a b × (length target ≡ length a) × SumsInRange a b)
  is_taken = (
    λ e. let h = pool_held a b (length target) (sym c.answer ∙ e) in
        (h.pair.first_accepted, h.pair.second_accepted, h.pair.lines, h.size, (sums_in_range a b).0 (λ j l i k. h.sums i j k l)),
    λ h. let sums = (sums_in_range a b).1 h.4 in
        c.answer ∙ pool_taken a b (length target) (record {
          pair = record { first_accepted = h.0; second_accepted = h.1; lines = h.2 };
          size = h.3;
          sums = λ i j k l. sums j l i k;
        }),
  )

  -- the pool is left then
  pub left : n ≡ 0 → p ≡ pooled a b
  left e = c.pool ∙ pooled_is a b target (sym c.answer ∙ e)

pub eleven : (a b : List ℕ) → (some_sum_out a b ≡ false) ↔ SumsInRange a b
eleven a b = Iff.trans (pool_laws.eleven a b) (sums_in_range a b)

-- ---- in the other order

-- accepted sheets on the same lines are of one length
pub same_length : {a b : List ℕ} → Accepted a → Accepted b → SameLines a b → length a ≡ length b
same_length {a} {b} x y l = (accepted_laws.sound a x).whole ∙ sym (rw (l.same_columns, l.same_rows) at (accepted_laws.sound b y).whole)

swapped : {a b : List ℕ} → SameLines a b → SumsInRange a b → SumsInRange b a
swapped {a} {b} l s = record {
  heights = λ i j h k. turned (node_at a i j).stored_height (node_at b i j).stored_height (s.heights i j (across h) (down k));
  slopes_x = λ i j h k. turned (node_at a i j).slope_x (node_at b i j).slope_x (s.slopes_x i j (across h) (down k));
  slopes_y = λ i j h k. turned (node_at a i j).slope_y (node_at b i j).slope_y (s.slopes_y i j (across h) (down k));
}
  where
    turned : (x y : ℤ) → (x +ℤ y) within 4095 → (y +ℤ x) within 4095
    turned x y = subst (λ z. z within 4095) (+ℤ_comm x y)

    across : {i : ℕ} → i < columns b → i < columns a
    across h = rw l.same_columns at h

    down : {j : ℕ} → j < rows b → j < rows a
    down h = rw l.same_rows at h

pub other_way : {a b target target' p q a' b' a'' b'' : List ℕ} {n m : ℕ} → length target ≡ length target' →
    Pool a b target n p a' b' → Pool b a target' m q b'' a'' → n ≡ 0 → m ≡ 0
other_way t c d e =
    let (x, y, l, size, s) = (is_taken c).0 e in
    (is_taken d).1 (y, x, same_sym l, sym t ∙ size ∙ same_length x y l, swapped l s)

-- ---- each number

module _ {a b target p a' b' : List ℕ} {n : ℕ} (c : Pool a b target n p a' b') where
  abbrev sheet : PoolInput → List ℕ
  sheet u = u.first

  abbrev u : PoolInput
  u = record { first = a; second = b; size = length target }

  abbrev fifteenth : Rule PoolInput
  fifteenth = rule 15 (λ u. second_refused u.second)

  abbrev sixteenth : Rule PoolInput
  sixteenth = rule 16 (λ u. other_lines u.first u.second)

  abbrev seventeenth : Rule PoolInput
  seventeenth = rule 17 (λ u. other_target u.first u.size)

  abbrev eleventh : Rule PoolInput
  eleventh = rule 11 (λ u. some_sum_out u.first u.second)

  pub gives_fifteen_lem : (n ≡ 15) ↔ (Accepted a × ¬ Accepted b)
  unfolding lacks
  gives_fifteen_lem = number_of (of_sheet sheet) fifteenth (sixteenth ∷ seventeenth ∷ eleventh ∷ []) (pool_gives c) tt tt tt
      (λ h. ((past_sheet sheet u []).0 h).0, λ x. (past_sheet sheet u []).1 (x, tt)) (pool_laws.fifteen b)

  pub gives_sixteen_lem : (n ≡ 16) ↔ (Accepted a × Accepted b × ¬ SameLines a b)
  unfolding lacks
  gives_sixteen_lem = Iff.trans
      (number_of (of_sheet sheet ++ fifteenth ∷ []) sixteenth (seventeenth ∷ eleventh ∷ []) (pool_gives c) tt tt tt
      (past_sheet sheet u (fifteenth ∷ [])) (pool_laws.sixteen a b)) (
        λ ((x, (y, _)), l). (x, (pool_laws.fifteen b).0 y, l),
        λ (x, y, l). ((x, ((pool_laws.fifteen b).1 y, tt)), l),
      )

  pub gives_seventeen_lem : (n ≡ 17) ↔ (Accepted a × Accepted b × SameLines a b × ¬ (length target ≡ length a))
  unfolding lacks
  gives_seventeen_lem = Iff.trans
      (number_of (of_sheet sheet ++ fifteenth ∷ sixteenth ∷ []) seventeenth (eleventh ∷ []) (pool_gives c) tt tt tt
      (past_sheet sheet u (fifteenth ∷ sixteenth ∷ [])) (pool_laws.seventeen a (length target))) (
        λ ((x, (y, (l, _))), t). (x, (pool_laws.fifteen b).0 y, (pool_laws.sixteen a b).0 l, t),
        λ (x, y, l, t). ((x, ((pool_laws.fifteen b).1 y, ((pool_laws.sixteen a b).1 l, tt))), t),
      )

  pub gives_eleven_lem : (n ≡ 11) ↔ (Accepted a × Accepted b × SameLines a b × (length target ≡ length a) × ¬ SumsInRange a b)
  unfolding lacks
  gives_eleven_lem = Iff.trans
      (number_of (of_sheet sheet ++ fifteenth ∷ sixteenth ∷ seventeenth ∷ []) eleventh [] (pool_gives c) tt tt tt
      (past_sheet sheet u (fifteenth ∷ sixteenth ∷ seventeenth ∷ [])) (eleven a b)) (
        λ ((x, (y, (l, (t, _)))), s). (x, (pool_laws.fifteen b).0 y, (pool_laws.sixteen a b).0 l, (pool_laws.seventeen a _).0 t, s),
        λ (x, y, l, t, s). ((x, ((pool_laws.fifteen b).1 y, ((pool_laws.sixteen a b).1 l, ((pool_laws.seventeen a _).1 t, tt)))), s),
      )
