-- `element_row_cubic::denominator` meets its contract. Assumes nothing.
use Rattle.std.proofs.Common.{◌≡◌, ◌*◌, ℕ, ℤ, pos, w64, sym, ◌∙◌}
use Rattle.integers.proofs.Operand.{Operand, literal, returned, stored, ◌⊠◌, asks, gives}
use Rattle.element_cell.specs.Cell.{Side}
use Rattle.element_cell.proofs.Sides.{cube_within}
use Rattle.element_row_cubic.proofs.Denominators.{cubes_are}
use Rattle.element_row_cubic.proofs.denominator.Goals as goal

-- from the two cubes that the calls returned
abbrev doubled : {w h : ℕ} {x y : ℤ} → Side w × Side h → x ≡ pos (w * w * w) → y ≡ pos (h * h * h) → Operand
doubled s e f = literal (pos 2) ⊠ stored w64 (returned w64 e (cube_within s.0.most) tt ⊠ returned w64 f (cube_within s.1.most) tt) tt

pub overflow_mul-result-2 : goal.overflow_mul-result-2
overflow_mul-result-2 c = asks w64 (doubled c.requires c.cube.ensures c.cube-2.ensures) tt

pub returns : goal.returns
returns c = gives w64 (doubled c.requires c.cube.ensures c.cube-2.ensures) tt ∙ (λ i. pos (2 * sym (cubes_are c.requires.0 c.requires.1) i))
