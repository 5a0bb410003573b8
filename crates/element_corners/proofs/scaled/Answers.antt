-- `element_corners::scaled` meets its contract. Assumes nothing.
use mathlib.Core.Path.{◌≡◌, sym, ◌∙◌}
use mathlib.Core.List.{[], ◌∷◌}
use Prim.Native.Nat.{ℕ, ◌≤◌}
use native.Mathlib.Omega.{arith}
use lib.IntN.{ℤ, pos, ◌*ℤ◌}
use mir.Syntax.{w64}
use Rattle.integers.specs.Within.{◌within◌}
use Rattle.integers.proofs.Operand.{Operand, known, returned, ◌⊠◌, asks, gives}
use Rattle.integers.proofs.Parameters.{kept}
use Rattle.element_sibson.specs.Element.{corner_numbers}
use Rattle.element_cell.specs.Cell.{cell}
use Rattle.element_cell.specs.Corners.{jet_of, three, numbers_of}
use Rattle.element_cell.proofs.Sides.{length_within, side_is}
use Rattle.element_corners.proofs.scaled.Goals as goal

-- a length times a slope
abbrev times : {x : ℤ} {l : ℕ} {z : ℤ} → x ≡ pos l → l ≤ 64 → z within 4095 → Operand
times e h k = returned w64 e (length_within h) tt ⊠ known w64 k tt

pub overflow_mul-result : goal.overflow_mul-result
unfolding jet_of
overflow_mul-result c = asks w64 (times c.length.ensures (omega (arith, c.requires.2.most)) c.requires.0) tt

pub overflow_mul-result-2 : goal.overflow_mul-result-2
unfolding jet_of
overflow_mul-result-2 c = asks w64 (times c.length-2.ensures (omega (arith, c.requires.3.most)) c.requires.1) tt

pub returns : goal.returns
unfolding jet_of three numbers_of corner_numbers cell
returns c i = let r = c.requires in
    kept c.args.c c.well_formed.0 0 i ∷
    (gives w64 (times c.length.ensures (omega (arith, r.2.most)) r.0) tt ∙ (λ j. pos (sym (side_is r.2) j) *ℤ (jet_of c.args.c).x_slope)) i ∷
    (gives w64 (times c.length-2.ensures (omega (arith, r.3.most)) r.1) tt ∙ (λ j. pos (sym (side_is r.3) j) *ℤ (jet_of c.args.c).y_slope)) i ∷ []
