-- `element_turnings::flipped` meets its contract: sums of at most six coefficients, each within the size of all. Assumes nothing.
use Rattle.std.proofs.Common.{List, [], ◌∷◌, ℕ, ℤ, pos, w64}
use Rattle.integers.proofs.Operand.{Operand, literal, known, stored, opposite, ◌⊞◌, ◌⊠◌, asks, gives}
use Rattle.element_sibson.specs.Element.{flipped}
use Rattle.element_cell.specs.Coefficients.{listed, halves, Sized}
use Rattle.element_cell.proofs.Listed.{coefficient_within}
use Rattle.element_turnings.proofs.flipped.Goals as goal

module _ {zs : List ℤ} (h : Sized zs) where
  abbrev k : ℕ → Operand
  k j = known w64 (coefficient_within h j) tt

  -- those of 1, r, s, r², rs, s²; of s and rs before the sign
  abbrev k02 : Operand
  k02 = k 0 ⊞ k 2

  abbrev k025 : Operand
  k025 = stored w64 k02 tt ⊞ k 5

  abbrev of-1 : Operand
  of-1 = stored w64 k025 tt ⊞ k 9

  abbrev k14 : Operand
  k14 = k 1 ⊞ k 4

  abbrev of-r : Operand
  of-r = stored w64 k14 tt ⊞ k 8

  abbrev twice : ℕ → Operand
  twice j = literal (pos 2) ⊠ k j

  abbrev thrice : Operand
  thrice = literal (pos 3) ⊠ k 9

  abbrev k25 : Operand
  k25 = k 2 ⊞ stored w64 (twice 5) tt

  abbrev of-s : Operand
  of-s = stored w64 k25 tt ⊞ stored w64 thrice tt

  abbrev of-r² : Operand
  of-r² = k 3 ⊞ k 7

  abbrev of-rs : Operand
  of-rs = k 4 ⊞ stored w64 (twice 8) tt

  abbrev of-s² : Operand
  of-s² = k 5 ⊞ stored w64 thrice tt

pub overflow_add-result : goal.overflow_add-result
unfolding listed halves
overflow_add-result c = asks w64 (k02 c.requires) tt

pub overflow_add-result-2 : goal.overflow_add-result-2
unfolding listed halves
overflow_add-result-2 c = asks w64 (k025 c.requires) tt

pub overflow_add-result-3 : goal.overflow_add-result-3
unfolding listed halves
overflow_add-result-3 c = asks w64 (of-1 c.requires) tt

pub overflow_add-result-4 : goal.overflow_add-result-4
unfolding listed halves
overflow_add-result-4 c = asks w64 (k14 c.requires) tt

pub overflow_add-result-5 : goal.overflow_add-result-5
unfolding listed halves
overflow_add-result-5 c = asks w64 (of-r c.requires) tt

pub overflow_mul-result : goal.overflow_mul-result
unfolding listed halves
overflow_mul-result c = asks w64 (twice c.requires 5) tt

pub overflow_add-result-6 : goal.overflow_add-result-6
unfolding listed halves
overflow_add-result-6 c = asks w64 (k25 c.requires) tt

pub overflow_mul-result-2 : goal.overflow_mul-result-2
unfolding listed halves
overflow_mul-result-2 c = asks w64 (thrice c.requires) tt

pub overflow_add-result-7 : goal.overflow_add-result-7
unfolding listed halves
overflow_add-result-7 c = asks w64 (of-s c.requires) tt

pub overflow_sub-result : goal.overflow_sub-result
unfolding listed halves
overflow_sub-result c = asks w64 (opposite (stored w64 (of-s c.requires) tt)) tt

pub overflow_add-result-8 : goal.overflow_add-result-8
unfolding listed halves
overflow_add-result-8 c = asks w64 (of-r² c.requires) tt

pub overflow_mul-result-3 : goal.overflow_mul-result-3
unfolding listed halves
overflow_mul-result-3 c = asks w64 (twice c.requires 8) tt

pub overflow_add-result-9 : goal.overflow_add-result-9
unfolding listed halves
overflow_add-result-9 c = asks w64 (of-rs c.requires) tt

pub overflow_sub-result-2 : goal.overflow_sub-result-2
unfolding listed halves
overflow_sub-result-2 c = asks w64 (opposite (stored w64 (of-rs c.requires) tt)) tt

pub overflow_mul-result-4 : goal.overflow_mul-result-4
unfolding listed halves
overflow_mul-result-4 c = asks w64 (thrice c.requires) tt

pub overflow_add-result-10 : goal.overflow_add-result-10
unfolding listed halves
overflow_add-result-10 c = asks w64 (of-s² c.requires) tt

pub overflow_sub-result-3 : goal.overflow_sub-result-3
unfolding listed halves
overflow_sub-result-3 c = asks w64 (opposite (k c.requires 7)) tt

pub overflow_sub-result-4 : goal.overflow_sub-result-4
unfolding listed halves
overflow_sub-result-4 c = asks w64 (opposite (k c.requires 9)) tt

pub returns : goal.returns
unfolding listed flipped halves
returns c i = let h = c.requires in
    gives w64 (of-1 h) tt i ∷ gives w64 (of-r h) tt i ∷ gives w64 (opposite (stored w64 (of-s h) tt)) tt i ∷ gives w64 (of-r² h) tt i ∷
    gives w64 (opposite (stored w64 (of-rs h) tt)) tt i ∷ gives w64 (of-s² h) tt i ∷
    (k h 6).reads i ∷ gives w64 (opposite (k h 7)) tt i ∷ (k h 8).reads i ∷ gives w64 (opposite (k h 9)) tt i ∷ []
