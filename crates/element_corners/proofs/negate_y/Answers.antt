-- `element_corners::negate_y` meets its contract. Assumes nothing.
use Rattle.std.proofs.Common.{w64, ℤ, [], ◌∷◌}
use Rattle.integers.specs.Within.{◌within◌}
use Rattle.integers.proofs.Operand.{Operand, known, opposite, asks, gives}
use Rattle.integers.proofs.Parameters.{kept}
use Rattle.element_sibson.specs.Element.{negate_y}
use Rattle.element_cell.specs.Corners.{jet_of, three, largest}
use Rattle.element_corners.proofs.negate_y.Goals as goal

abbrev negated : {z : ℤ} → z within largest → Operand
negated h = opposite (known w64 h tt)

pub overflow_sub-result : goal.overflow_sub-result
unfolding jet_of
overflow_sub-result c = asks w64 (negated c.requires) tt

pub returns : goal.returns
unfolding jet_of three negate_y
returns c i = let k = kept c.args.c c.well_formed.0 in k 0 i ∷ k 1 i ∷ gives w64 (negated c.requires) tt i ∷ []
