-- `element_row_cubic::down` meets its contract: no power exceeds 64³. Assumes nothing.
use Rattle.std.proofs.Common.{◌≡◌, ◌*◌, ◌≤◌, List, ℕ, ℤ, pos, get_or, le_trans, arith, w64}
use Rattle.integers.proofs.Bounds.{is_within, within_mono}
use Rattle.integers.proofs.Operand.{Operand, known, returned, stored, ◌⊞◌, ◌⊠◌, asks, gives}
use Rattle.element_cell.specs.Cell.{Side}
use Rattle.element_cell.specs.Corners.{largest}
use Rattle.element_cell.specs.Coefficients.{size}
use Rattle.element_cell.proofs.Listed.{in_size}
use Rattle.element_cell.proofs.Sides.{length_within}
use Rattle.element_row_cubic.specs.Row.{down}
use Rattle.element_row_cubic.proofs.RowBounds.{down_within}
use Rattle.element_row_cubic.proofs.down.Goals as goal

-- the terms and their sums, where calls returned x for the height and y for b
module _ (c : List ℤ) {b height : ℕ} {x y : ℤ} (r : (size c ≤ 256 * largest) × Side height × (b ≤ height)) (e : x ≡ pos height) (f : y ≡ pos b) where
  abbrev k : ℕ → Operand
  k i = known w64 (is_within (get_or c i (pos 0)) (le_trans (in_size c i) r.0)) tt

  abbrev h : Operand
  h = returned w64 e (length_within r.1.most) tt

  abbrev v : Operand
  v = returned w64 f (length_within (le_trans r.2 r.1.most)) tt

  abbrev t₀ : Operand
  t₀ = k 0 ⊠ stored w64 (stored w64 (h ⊠ h) tt ⊠ h) tt

  abbrev t₁ : Operand
  t₁ = k 1 ⊠ stored w64 (stored w64 (v ⊠ h) tt ⊠ h) tt

  abbrev t₂ : Operand
  t₂ = k 2 ⊠ stored w64 (stored w64 (v ⊠ v) tt ⊠ h) tt

  abbrev t₃ : Operand
  t₃ = k 3 ⊠ stored w64 (stored w64 (v ⊠ v) tt ⊠ v) tt

  abbrev two : Operand
  two = stored w64 t₀ tt ⊞ stored w64 t₁ tt

  abbrev three : Operand
  three = stored w64 two tt ⊞ stored w64 t₂ tt

  abbrev four : Operand
  four = stored w64 three tt ⊞ stored w64 t₃ tt

pub overflow_mul-result-3 : goal.overflow_mul-result-3
overflow_mul-result-3 c = asks w64 (t₀ c.args.c c.requires c.length-h.ensures c.length-v.ensures) tt

pub overflow_mul-result-6 : goal.overflow_mul-result-6
overflow_mul-result-6 c = asks w64 (t₁ c.args.c c.requires c.length-h.ensures c.length-v.ensures) tt

pub overflow_add-result : goal.overflow_add-result
overflow_add-result c = asks w64 (two c.args.c c.requires c.length-h.ensures c.length-v.ensures) tt

pub overflow_mul-result-9 : goal.overflow_mul-result-9
overflow_mul-result-9 c = asks w64 (t₂ c.args.c c.requires c.length-h.ensures c.length-v.ensures) tt

pub overflow_add-result-2 : goal.overflow_add-result-2
overflow_add-result-2 c = asks w64 (three c.args.c c.requires c.length-h.ensures c.length-v.ensures) tt

pub overflow_mul-result-12 : goal.overflow_mul-result-12
overflow_mul-result-12 c = asks w64 (t₃ c.args.c c.requires c.length-h.ensures c.length-v.ensures) tt

pub overflow_add-result-3 : goal.overflow_add-result-3
overflow_add-result-3 c = asks w64 (four c.args.c c.requires c.length-h.ensures c.length-v.ensures) tt

pub returns-clause-is : goal.returns-clause-is
unfolding down
returns-clause-is c = gives w64 (four c.args.c c.requires c.length-h.ensures c.length-v.ensures) tt

pub returns-clause-small : goal.returns-clause-small
returns-clause-small c = let r = c.requires in
    rw (returns-clause-is c) (within_mono (down_within c.args.c (le_trans r.2 r.1.most) r.1.most) (omega (arith, r.0)))
