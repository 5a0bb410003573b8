-- The sum by which the code makes a coefficient of piece 0, weight by weight: what it comes to, and how large it is. Assumes nothing.
use mathlib.Core.Path.{◌≡◌, sym, ap}
use mathlib.Core.Bool.{Bool, true, ◌&&◌}
use mathlib.Core.List.{List, [], ◌∷◌}
use Prim.Native.Nat.{ℕ, zero, suc, ◌+◌, ◌*◌, ◌/◌, ◌%◌, ◌≤◌, ◌<◌, zero-le}
use native.Mathlib.Numerals.{add-one}
use native.Mathlib.Omega.{arith}
use lib.Dec.{T, leb, leb→le}
use lib.IntN.{ℤ, pos, nat_abs, ◌+ℤ◌, ◌*ℤ◌, +ℤ_assoc, +ℤ_idl, +ℤ_idr}
use lib.ListN.{get_or}
use Rattle.integers.specs.Within.{◌within◌}
use Rattle.integers.proofs.Deduce.{both}
use Rattle.integers.proofs.Bounds.{is_within, within_mono, within-+, within-*}
use Rattle.element_sibson.specs.Cubic.{Power}
use Rattle.element_sibson.specs.Piece.{left_top, right_top, left_bottom, right_bottom}
use Rattle.element_sibson.specs.Element.{in_order, column, weights, weighed}
use Rattle.element_cell.specs.Corners.{jet_of, corners, largest, AllWithin}

-- ---- every weight is within 6: one test of the table

abbrev row_test : List ℤ → Bool
row_test [] = true
row_test (z ∷ zs) = leb (nat_abs z) 6 && row_test zs

abbrev table_test : List (List ℤ) → Bool
table_test [] = true
table_test (row ∷ rows) = row_test row && table_test rows

in_row : (zs : List ℤ) → T (row_test zs) → (k : ℕ) → get_or zs k (pos 0) within 6
in_row [] t k = is_within (pos 0) zero-le
in_row (z ∷ zs) t zero = is_within z (leb→le (nat_abs z) 6 (both (leb (nat_abs z) 6) (row_test zs) t).0)
in_row (z ∷ zs) t (suc k) = in_row zs (both (leb (nat_abs z) 6) (row_test zs) t).1 k

in_table : (rows : List (List ℤ)) → T (table_test rows) → (i k : ℕ) → get_or (get_or rows i []) k (pos 0) within 6
in_table [] t i k = is_within (pos 0) zero-le
in_table (row ∷ rows) t zero k = in_row row (both (row_test row) (table_test rows) t).0 k
in_table (row ∷ rows) t (suc i) k = in_table rows (both (row_test row) (table_test rows) t).1 i k

pub weight_within : (i k : ℕ) → get_or (get_or weights i []) k (pos 0) within 6
unfolding weights
weight_within = in_table weights tt

-- ---- the sum, of the corner numbers that four arrays hold

module _ (n : List (List ℤ)) where
  -- corner number i: number i % 3 of corner i / 3
  abbrev pub number : ℕ → ℤ
  number i = get_or (get_or n (i / 3) []) (i % 3) (pos 0)

  -- the first i entries of column k, each times its corner number, added
  unfoldable pub sum_of : List (List ℤ) → ℕ → ℕ → ℤ
  sum_of table k zero = pos 0
  sum_of table k (suc i) = sum_of table k i +ℤ get_or (get_or table i []) k (pos 0) *ℤ number i

  pub one_more_lem : (table : List (List ℤ)) (k i : ℕ) → sum_of table k i +ℤ get_or (get_or table i []) k (pos 0) *ℤ number i ≡ sum_of table k (i + 1)
  unfolding sum_of
  one_more_lem table k i = ap (sum_of table k) (sym (add-one i))

  -- all twelve are the definition's sum
  pub all_twelve : (p : Power) → sum_of weights (column p) 12 ≡ weighed weights (in_order (corners n)) p
  unfolding sum_of weights weighed in_order corners jet_of
  all_twelve p = simp (+ℤ_assoc, +ℤ_idl, +ℤ_idr)

  module _ (h : AllWithin largest (corners n)) where
    pub number_within : (i : ℕ) → i < 12 → number i within largest
    unfolding corners jet_of
    number_within zero t = h.heights left_top
    number_within (suc zero) t = h.x_slopes left_top
    number_within (suc (suc zero)) t = h.y_slopes left_top
    number_within (suc (suc (suc zero))) t = h.heights right_top
    number_within (suc (suc (suc (suc zero)))) t = h.x_slopes right_top
    number_within (suc (suc (suc (suc (suc zero))))) t = h.y_slopes right_top
    number_within (suc (suc (suc (suc (suc (suc zero)))))) t = h.heights left_bottom
    number_within (suc (suc (suc (suc (suc (suc (suc zero))))))) t = h.x_slopes left_bottom
    number_within (suc (suc (suc (suc (suc (suc (suc (suc zero)))))))) t = h.y_slopes left_bottom
    number_within (suc (suc (suc (suc (suc (suc (suc (suc (suc zero))))))))) t = h.heights right_bottom
    number_within (suc (suc (suc (suc (suc (suc (suc (suc (suc (suc zero)))))))))) t = h.x_slopes right_bottom
    number_within (suc (suc (suc (suc (suc (suc (suc (suc (suc (suc (suc zero))))))))))) t = h.y_slopes right_bottom
    number_within (suc (suc (suc (suc (suc (suc (suc (suc (suc (suc (suc (suc i)))))))))))) t = absurd (omega arith)

    grows : (k i : ℕ) → i ≤ 12 → sum_of weights k i within (i * (6 * largest))
    unfolding sum_of
    grows k zero t = is_within (pos 0) zero-le
    grows k (suc i) t = within_mono (within-+ (grows k i (omega arith)) (within-* (weight_within i k) (number_within i (omega arith)))) (omega arith)

    pub sum_within : (k i : ℕ) → i ≤ 12 → sum_of weights k i within (72 * largest)
    sum_within k i t = within_mono (grows k i t) (omega arith)
