-- `element_evaluation::low_degree::Linear::at` meets its contract. Assumes nothing.
use Rattle.std.proofs.Common.{◌*◌, ℕ, ℤ, List, w64}
use Rattle.integers.proofs.Operand.{Operand, known, stored, ◌⊞◌, ◌⊠◌, asks, gives}
use Rattle.element_evaluation.specs.Needs.{EachWithin}
use Rattle.element_evaluation.specs.LowDegree.{linear_at}
use Rattle.element_evaluation.proofs.Derived.{S, linear_within}
use Rattle.element_evaluation.proofs.low_degree.Linear.at.Goals as goal

module _ {c z : List ℤ} (h : EachWithin (6 * S) c) (k : EachWithin 4096 z) where
  abbrev term : ℕ → ℕ → Operand
  term i j = known w64 (h.each i) tt ⊠ known w64 (k.each j) tt

  abbrev two : Operand
  two = stored w64 (term 0 0) tt ⊞ stored w64 (term 1 1) tt

  abbrev three : Operand
  three = stored w64 two tt ⊞ stored w64 (term 2 2) tt

pub overflow_mul-result : goal.overflow_mul-result
overflow_mul-result c = asks w64 (term c.self.invariant c.scaled_point.ensures.small 0 0) tt

pub overflow_mul-result-2 : goal.overflow_mul-result-2
overflow_mul-result-2 c = asks w64 (term c.self.invariant c.scaled_point.ensures.small 1 1) tt

pub overflow_add-result : goal.overflow_add-result
overflow_add-result c = asks w64 (two c.self.invariant c.scaled_point.ensures.small) tt

pub overflow_mul-result-3 : goal.overflow_mul-result-3
overflow_mul-result-3 c = asks w64 (term c.self.invariant c.scaled_point.ensures.small 2 2) tt

pub overflow_add-result-2 : goal.overflow_add-result-2
overflow_add-result-2 c = asks w64 (three c.self.invariant c.scaled_point.ensures.small) tt

pub returns-clause-is : goal.returns-clause-is
unfolding linear_at
returns-clause-is c = rw (← c.self.view_is, ← c.scaled_point.ensures.is) (gives w64 (three c.self.invariant c.scaled_point.ensures.small) tt)

pub returns-clause-small : goal.returns-clause-small
unfolding linear_at
returns-clause-small c =
    let h = c.self.invariant in let k = c.scaled_point.ensures.small in rw (gives w64 (three h k) tt) (linear_within h k)
