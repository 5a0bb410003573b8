-- `element_evaluation::low_degree::scaled_point` meets its contract. Assumes nothing.
use Rattle.std.proofs.Common.{◌≡◌, ◌*◌, ◌≤◌, ℕ, ℤ, pos, List, [], ◌∷◌, ◌∙◌, le_trans, w64}
use lib.Dec.{lit≤}
use Rattle.integers.proofs.Operand.{Operand, returned, stored, ◌⊠◌}
use Rattle.element_cell.specs.Cell.{Pixel, cell, pixel_cell, PixelInCell}
use Rattle.element_cell.proofs.Sides.{length_within, side_is}
use Rattle.element_evaluation.specs.LowDegree.{scaled_of}
use Rattle.element_evaluation.proofs.Derived.{all_read, each_read}
use Rattle.element_evaluation.proofs.low_degree.scaled_point.Goals as goal

abbrev side : {l : ℕ} {x : ℤ} → x ≡ pos l → l ≤ 64 → Operand
side e m = returned w64 e (length_within m) tt

module _ {p : Pixel} (i : PixelInCell p) {w h a b : ℤ} (is_w : w ≡ pos p.width) (is_h : h ≡ pos p.height) (is_a : a ≡ pos p.a) (is_b : b ≡ pos p.b) where
  abbrev parts : List Operand
  parts = let w = side is_w i.width.most in let h = side is_h i.height.most in
      stored w64 (w ⊠ h) tt ∷ stored w64 (side is_a (le_trans i.across i.width.most) ⊠ h) tt ∷ stored w64 (side is_b (le_trans i.down i.height.most) ⊠ w) tt ∷ []

-- over the sides as they are
sides : {p : Pixel} → PixelInCell p → pos (p.width * p.height) ∷ pos (p.a * p.height) ∷ pos (p.b * p.width) ∷ [] ≡ scaled_of (pixel_cell p) p.a p.b
unfolding cell scaled_of
sides i = rw (side_is i.width, side_is i.height)

pub returns-clause-is : goal.returns-clause-is
returns-clause-is c = rw (← c.p.view_is)
    (all_read (parts c.p.invariant c.length-w.ensures c.length-h.ensures c.length.ensures c.length-2.ensures) ∙ sides c.p.invariant)

pub returns-clause-small : goal.returns-clause-small
returns-clause-small c = each_read (parts c.p.invariant c.length-w.ensures c.length-h.ensures c.length.ensures c.length-2.ensures) (lit≤ tt)
