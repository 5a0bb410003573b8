-- `element_row_cubic::at_offset` meets its contract: no part of Horner's rule exceeds 2⁶². Assumes nothing.
use Rattle.std.proofs.Common.{◌≡◌, ◌≤◌, List, ℕ, ℤ, pos, w64, ◌∙◌}
use Rattle.integers.proofs.Operand.{Operand, known, returned, stored, rebound, ◌⊞◌, ◌⊠◌, asks, gives}
use Rattle.element_cell.proofs.Sides.{length_within}
use Rattle.element_row_cubic.specs.Row.{reach}
use Rattle.element_row_cubic.proofs.Limits.{reach_limit}
use Rattle.element_row_cubic.proofs.Horner.{c₀, c₁, c₂, c₃, m₂, s₂, m₁, s₁, m₀, s₀, expanded}
use Rattle.element_row_cubic.proofs.at_offset.Goals as goal

-- from the inmost product outwards, where a call returned x for the offset
module _ (row : List ℤ) {offset : ℕ} {x : ℤ} (r : (reach row ≤ reach_limit) × (offset ≤ 64)) (e : x ≡ pos offset) where
  abbrev a : Operand
  a = returned w64 e (length_within r.1) tt

  abbrev p₂ : Operand
  p₂ = rebound (a ⊠ known w64 (c₃ row r.0 r.1) tt) (m₂ row r.0 r.1)

  abbrev q₂ : Operand
  q₂ = rebound (known w64 (c₂ row r.0 r.1) tt ⊞ stored w64 p₂ tt) (s₂ row r.0 r.1)

  abbrev p₁ : Operand
  p₁ = rebound (a ⊠ stored w64 q₂ tt) (m₁ row r.0 r.1)

  abbrev q₁ : Operand
  q₁ = rebound (known w64 (c₁ row r.0 r.1) tt ⊞ stored w64 p₁ tt) (s₁ row r.0 r.1)

  abbrev p₀ : Operand
  p₀ = rebound (a ⊠ stored w64 q₁ tt) (m₀ row r.0 r.1)

  abbrev q₀ : Operand
  q₀ = rebound (known w64 (c₀ row r.0 r.1) tt ⊞ stored w64 p₀ tt) (s₀ row r.0 r.1)

pub overflow_mul-result : goal.overflow_mul-result
overflow_mul-result c = asks w64 (p₂ c.args.row c.requires c.length-a.ensures) tt

pub overflow_add-result : goal.overflow_add-result
overflow_add-result c = asks w64 (q₂ c.args.row c.requires c.length-a.ensures) tt

pub overflow_mul-result-2 : goal.overflow_mul-result-2
overflow_mul-result-2 c = asks w64 (p₁ c.args.row c.requires c.length-a.ensures) tt

pub overflow_add-result-2 : goal.overflow_add-result-2
overflow_add-result-2 c = asks w64 (q₁ c.args.row c.requires c.length-a.ensures) tt

pub overflow_mul-result-3 : goal.overflow_mul-result-3
overflow_mul-result-3 c = asks w64 (p₀ c.args.row c.requires c.length-a.ensures) tt

pub overflow_add-result-3 : goal.overflow_add-result-3
overflow_add-result-3 c = asks w64 (q₀ c.args.row c.requires c.length-a.ensures) tt

pub returns : goal.returns
returns c = gives w64 (q₀ c.args.row c.requires c.length-a.ensures) tt ∙ expanded c.args.row c.requires.0 c.requires.1
