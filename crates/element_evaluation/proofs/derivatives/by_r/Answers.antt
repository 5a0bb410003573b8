-- `element_evaluation::derivatives::by_r` meets its contract. Assumes nothing.
use Rattle.std.proofs.Common.{ℤ, List, [], ◌∷◌, w64}
use lib.Dec.{lit≤}
use Rattle.integers.proofs.Operand.{Operand, stored, asks}
use Rattle.element_sibson.specs.Cubic.{r¹, r², rs, r³, r²s, rs², by_r}
use Rattle.element_cell.specs.Coefficients.{listed, halves, Sized}
use Rattle.element_evaluation.proofs.Derived.{all_read, each_read, k_at, double, treble}
use Rattle.element_evaluation.proofs.derivatives.by_r.Goals as goal

abbrev parts : {k : List ℤ} → Sized k → List Operand
parts h = k_at h r¹ ∷ stored w64 (double h r²) tt ∷ k_at h rs ∷ stored w64 (treble h r³) tt ∷ stored w64 (double h r²s) tt ∷ k_at h rs² ∷ []

pub overflow_mul-result : goal.overflow_mul-result
overflow_mul-result c = asks w64 (double c.k.invariant r²) tt

pub overflow_mul-result-2 : goal.overflow_mul-result-2
overflow_mul-result-2 c = asks w64 (treble c.k.invariant r³) tt

pub overflow_mul-result-3 : goal.overflow_mul-result-3
overflow_mul-result-3 c = asks w64 (double c.k.invariant r²s) tt

pub invariant_of-result : goal.invariant_of-result
invariant_of-result c = each_read (parts c.k.invariant) (lit≤ tt)

pub returns : goal.returns
unfolding by_r listed halves
returns c = rw (← c.k.view_is) (all_read (parts c.k.invariant))
