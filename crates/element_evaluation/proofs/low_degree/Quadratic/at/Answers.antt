-- `element_evaluation::low_degree::Quadratic::at` meets its contract. Assumes nothing.
use Rattle.std.proofs.Common.{◌*◌, ℕ, ℤ, List, w64}
use Rattle.integers.proofs.Operand.{Operand, known, stored, ◌⊞◌, ◌⊠◌, asks, gives}
use Rattle.element_evaluation.specs.Needs.{EachWithin}
use Rattle.element_evaluation.specs.LowDegree.{linear_at, quadratic_at}
use Rattle.element_evaluation.proofs.Derived.{S, quadratic_within}
use Rattle.element_evaluation.proofs.low_degree.Quadratic.at.Goals as goal

module _ {c z : List ℤ} (h : EachWithin (3 * S) c) (k : EachWithin 4096 z) where
  abbrev at_z : ℕ → Operand
  at_z i = known w64 (k.each i) tt

  abbrev term : ℕ → ℕ → Operand
  term i j = known w64 (h.each i) tt ⊠ at_z j

  -- the part of degree 1, from its first two terms on
  abbrev two : Operand
  two = stored w64 (term 0 0) tt ⊞ stored w64 (term 1 1) tt

  abbrev linear : Operand
  linear = stored w64 two tt ⊞ stored w64 (term 2 2) tt

  abbrev in_q : Operand
  in_q = at_z 0 ⊠ stored w64 linear tt

  -- the part of degree 2
  abbrev mixed : Operand
  mixed = stored w64 (term 3 1) tt ⊞ stored w64 (term 4 2) tt

  abbrev in_x : Operand
  in_x = at_z 1 ⊠ stored w64 mixed tt

  abbrev in_y : Operand
  in_y = known w64 (h.each 5) tt ⊠ stored w64 (at_z 2 ⊠ at_z 2) tt

  abbrev square : Operand
  square = stored w64 in_x tt ⊞ stored w64 in_y tt

  abbrev all : Operand
  all = stored w64 in_q tt ⊞ stored w64 square tt

pub overflow_mul-result : goal.overflow_mul-result
overflow_mul-result c = asks w64 (term c.self.invariant c.scaled_point.ensures.small 0 0) tt

pub overflow_mul-result-2 : goal.overflow_mul-result-2
overflow_mul-result-2 c = asks w64 (term c.self.invariant c.scaled_point.ensures.small 1 1) tt

pub overflow_add-result : goal.overflow_add-result
overflow_add-result c = asks w64 (two c.self.invariant c.scaled_point.ensures.small) tt

pub overflow_mul-result-3 : goal.overflow_mul-result-3
overflow_mul-result-3 c = asks w64 (term c.self.invariant c.scaled_point.ensures.small 2 2) tt

pub overflow_add-result-2 : goal.overflow_add-result-2
overflow_add-result-2 c = asks w64 (linear c.self.invariant c.scaled_point.ensures.small) tt

pub overflow_mul-result-4 : goal.overflow_mul-result-4
overflow_mul-result-4 c = asks w64 (in_q c.self.invariant c.scaled_point.ensures.small) tt

pub overflow_mul-result-5 : goal.overflow_mul-result-5
overflow_mul-result-5 c = asks w64 (term c.self.invariant c.scaled_point.ensures.small 3 1) tt

pub overflow_mul-result-6 : goal.overflow_mul-result-6
overflow_mul-result-6 c = asks w64 (term c.self.invariant c.scaled_point.ensures.small 4 2) tt

pub overflow_add-result-3 : goal.overflow_add-result-3
overflow_add-result-3 c = asks w64 (mixed c.self.invariant c.scaled_point.ensures.small) tt

pub overflow_mul-result-7 : goal.overflow_mul-result-7
overflow_mul-result-7 c = asks w64 (in_x c.self.invariant c.scaled_point.ensures.small) tt

pub overflow_mul-result-9 : goal.overflow_mul-result-9
overflow_mul-result-9 c = asks w64 (in_y c.self.invariant c.scaled_point.ensures.small) tt

pub overflow_add-result-4 : goal.overflow_add-result-4
overflow_add-result-4 c = asks w64 (square c.self.invariant c.scaled_point.ensures.small) tt

pub overflow_add-result-5 : goal.overflow_add-result-5
overflow_add-result-5 c = asks w64 (all c.self.invariant c.scaled_point.ensures.small) tt

pub returns-clause-is : goal.returns-clause-is
unfolding linear_at quadratic_at
returns-clause-is c = rw (← c.self.view_is, ← c.scaled_point.ensures.is) (gives w64 (all c.self.invariant c.scaled_point.ensures.small) tt)

pub returns-clause-small : goal.returns-clause-small
unfolding linear_at quadratic_at
returns-clause-small c =
    let h = c.self.invariant in let k = c.scaled_point.ensures.small in rw (gives w64 (all h k) tt) (quadratic_within h k)
