-- `element_evaluation::level_of` meets its contract. Assumes nothing.
use Rattle.std.proofs.Common.{◌≡◌, ◌*◌, ◌^◌, ◌≤◌, ℕ, ℤ, List, pos, sym, ◌∙◌, le_trans, w64}
use lib.IntN.{nat_abs}
use Rattle.integers.specs.Round.{round}
use Rattle.integers.proofs.Operand.{Operand, returned, unchanged}
use Rattle.element_cell.specs.Cell.{Pixel, Side, cell, PixelInCell}
use Rattle.element_cell.specs.Coefficients.{halves}
use Rattle.element_row_cubic.specs.Row.{at_offset, cubes_of, reach}
use Rattle.element_row_cubic.proofs.Denominators.{denominates}
use Rattle.element_row_cubic.proofs.Horner.{at_offset_within}
use Rattle.element_row_cubic.proofs.Heights.{row_laws}
use Rattle.element_evaluation.proofs.level_of.Goals as goal

-- what `at_offset` and `denominator` returned
abbrev numerator : {p : Pixel} (row : List ℤ) {x : ℤ} → PixelInCell p → reach row ≤ 2 ^ 62 → x ≡ at_offset row p.a → Operand
numerator row i r e = returned w64 e (at_offset_within row r (le_trans i.across i.width.most)) tt

abbrev denominator : {w h : ℕ} {x : ℤ} → Side w → Side h → x ≡ pos (2 * (cubes_of (cell w h)).number) → Operand
denominator u v e = returned w64 e (denominates u v).small tt

pub round-requires : goal.round-requires
round-requires c = let i = c.p.invariant in let n = numerator _ i c.along_row-cubic.ensures.reaches c.at_offset-n.ensures in
    rw (n.reads, (denominator i.width i.height c.denominator.ensures).reads) (record { numerator = n.bounded; denominator = denominates i.width i.height })

pub returns : goal.returns
unfolding halves
returns c = let i = c.p.invariant in let n = numerator _ i c.along_row-cubic.ensures.reaches c.at_offset-n.ensures in let d = denominator i.width i.height c.denominator.ensures in
    rw (← c.p.view_is)
    (unchanged w64 c.round.type_inv ∙ c.round.ensures ∙ (λ t. round (n.reads t) (nat_abs (d.reads t)))
    ∙ rw c.along_row-cubic.ensures.is (sym (row_laws.levels (cell c.p.inside.width c.p.inside.height) (halves c.args.k) c.p.inside.a c.p.inside.b)))
