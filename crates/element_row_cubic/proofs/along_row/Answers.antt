-- `element_row_cubic::along_row` meets its contract: each of its lists is part of the coefficients, whose sizes add up to no more than 256 times the largest number. Assumes nothing.
use Rattle.std.proofs.Common.{◌≡◌, ◌*◌, ◌^◌, List, [], ◌∷◌, ℕ, ℤ, pos, ◌*ℤ◌, get_or, refl, subst, to_z, of_z, arith, w64, ◌≤◌, sym}
use Rattle.integers.specs.Within.{◌within◌}
use Rattle.integers.proofs.Operand.{Operand, known, returned, ◌⊠◌, asks, gives}
use Rattle.element_sibson.specs.Cubic.{Power, one, r¹, s¹, r², rs, s², r³, r²s, rs², s³}
use Rattle.element_sibson.specs.Element.{column}
use Rattle.element_cell.specs.Cell.{Side, cell}
use Rattle.element_cell.specs.Coefficients.{listed, size, halves, Sized}
use Rattle.element_cell.proofs.Listed.{sized_within}
use Rattle.element_cell.proofs.Sides.{length_within, square_within, cube_within, side_is}
use Rattle.element_row_cubic.specs.Row.{down, along_row, reach}
use Rattle.element_row_cubic.proofs.Limits.{reach_limit}
use Rattle.element_row_cubic.proofs.RowBounds.{row_reach}
use Rattle.element_row_cubic.proofs.along_row.Goals as goal

-- a coefficient is read as it is
reads : {k : List ℤ} → Sized k → (p : Power) → to_z w64 (of_z w64 (get_or k (column p) (pos 0))) ≡ get_or k (column p) (pos 0)
reads s p = (known w64 (sized_within s p) tt).reads

-- what `down` returned, y, which is z; and its products with what `cube`, `square` and `length` returned, x
abbrev part : {y z : ℤ} → y ≡ z → y within (2 ^ 44) → Operand
part e h = returned w64 e (subst (λ z. z within (2 ^ 44)) e h) tt

abbrev cubed : {w : ℕ} {x y z : ℤ} → Side w → x ≡ pos (w * w * w) → y ≡ z → y within (2 ^ 44) → Operand
cubed s e f h = returned w64 e (cube_within s.most) tt ⊠ part f h

abbrev squared : {w : ℕ} {x y z : ℤ} → Side w → x ≡ pos (w * w) → y ≡ z → y within (2 ^ 44) → Operand
squared s e f h = returned w64 e (square_within s.most) tt ⊠ part f h

abbrev once : {w : ℕ} {x y z : ℤ} → Side w → x ≡ pos w → y ≡ z → y within (2 ^ 44) → Operand
once s e f h = returned w64 e (length_within s.most) tt ⊠ part f h

pub down-requires : goal.down-requires
unfolding listed size halves
down-requires c = let s = c.k.invariant in let m = s.sum in rw (reads s one, reads s s¹, reads s s², reads s s³) (omega (arith, m), c.requires.1, c.requires.2)

pub down-requires-2 : goal.down-requires-2
unfolding listed size halves
down-requires-2 c = let s = c.k.invariant in let m = s.sum in rw (reads s r¹, reads s rs, reads s rs²) (omega (arith, m), c.requires.1, c.requires.2)

pub down-requires-3 : goal.down-requires-3
unfolding listed size halves
down-requires-3 c = let s = c.k.invariant in let m = s.sum in rw (reads s r², reads s r²s) (omega (arith, m), c.requires.1, c.requires.2)

pub down-requires-4 : goal.down-requires-4
unfolding listed size halves
down-requires-4 c = let s = c.k.invariant in let m = s.sum in rw (reads s r³) (omega (arith, m), c.requires.1, c.requires.2)

pub overflow_mul-result : goal.overflow_mul-result
overflow_mul-result c = asks w64 (cubed c.requires.0 c.cube.ensures refl c.down.ensures.small) tt

pub overflow_mul-result-2 : goal.overflow_mul-result-2
overflow_mul-result-2 c = asks w64 (squared c.requires.0 c.square.ensures refl c.down-2.ensures.small) tt

pub overflow_mul-result-3 : goal.overflow_mul-result-3
overflow_mul-result-3 c = asks w64 (once c.requires.0 c.length.ensures refl c.down-3.ensures.small) tt

-- the row over the sides as they are
row : (k : List ℤ) (b : ℕ) {w h : ℕ} {p q r s : ℤ} → Side w → Side h →
    p ≡ pos (w * w * w) *ℤ down (get_or k 0 (pos 0) ∷ get_or k 2 (pos 0) ∷ get_or k 5 (pos 0) ∷ get_or k 9 (pos 0) ∷ []) b h →
    q ≡ pos (w * w) *ℤ down (get_or k 1 (pos 0) ∷ get_or k 4 (pos 0) ∷ get_or k 8 (pos 0) ∷ pos 0 ∷ []) b h →
    r ≡ pos w *ℤ down (get_or k 3 (pos 0) ∷ get_or k 7 (pos 0) ∷ pos 0 ∷ pos 0 ∷ []) b h →
    s ≡ down (get_or k 6 (pos 0) ∷ pos 0 ∷ pos 0 ∷ pos 0 ∷ []) b h →
    p ∷ q ∷ r ∷ s ∷ [] ≡ along_row (cell w h) (halves k) b
unfolding halves cell down along_row
row k b u v e f g h = rw (e, f, g, h, side_is u, side_is v)

pub returns-clause-is : goal.returns-clause-is
returns-clause-is c = let s = c.k.invariant in let w = c.requires.0 in
    rw (← c.k.view_is)
    (row _ _ w c.requires.1
    (gives w64 (cubed w c.cube.ensures (rw (reads s one, reads s s¹, reads s s², reads s s³) at c.down.ensures.is) c.down.ensures.small) tt)
    (gives w64 (squared w c.square.ensures (rw (reads s r¹, reads s rs, reads s rs²) at c.down-2.ensures.is) c.down-2.ensures.small) tt)
    (gives w64 (once w c.length.ensures (rw (reads s r², reads s r²s) at c.down-3.ensures.is) c.down-3.ensures.small) tt)
    (part (rw (reads s r³) at c.down-4.ensures.is) c.down-4.ensures.small).reads)

pub returns-clause-reaches : goal.returns-clause-reaches
returns-clause-reaches c = let r = c.requires in
    subst (λ z. reach z ≤ reach_limit) (sym (returns-clause-is c)) (row_reach (subst Sized c.k.view_is c.k.invariant) r.0 r.1 r.2)
