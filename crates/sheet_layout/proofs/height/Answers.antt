-- `sheet_layout::height` meets its contract. Assumes nothing.
use mathlib.Core.Path.{sym, ◌∙◌, subst, subst⁻¹}
use Prim.Native.Nat.{◌^◌}
use lib.IntN.{pos}
use mir.Syntax.{w64}
use Rattle.integers.specs.Within.{◌within◌}
use Rattle.integers.proofs.Operand.{literal, returned, ◌⊠◌, gives}
use Rattle.sheet_layout.proofs.Decoding.{height_read, first_is}
use Rattle.sheet_layout.proofs.height.Goals as goal

-- the height in steps, times 64
pub returns : goal.returns
returns c =
    let a = c.args in
    let e = first_is a.sheet.now a.column a.row c.node_offset.ensures.0 c.signed_word.ensures.0 in
    let grains = literal (pos 64) ⊠ returned w64 e (subst (λ z. z within 32768) e c.signed_word.ensures.1) tt in
    let g = gives w64 grains tt in
    (g ∙ sym (height_read a.sheet.now a.column a.row), subst⁻¹ (λ z. z within (2 ^ 21)) g grains.bounded)
