-- `sheet_steepness::slopes::stiffened` meets its contract. Assumes nothing.
use Rattle.std.proofs.Common.{◌^◌, pos, ◌∙◌, ap, arith, w64}
use mathlib.Core.Path.{subst⁻¹}
use Rattle.integers.specs.Within.{◌within◌}
use Rattle.integers.proofs.Bounds.{is_within}
use Rattle.integers.proofs.Operand.{Operand, known, stored, returned, ◌⊟◌, ◌⊠◌, asks, gives}
use Rattle.sheet_layout.specs.Neighbours.{next}
use Rattle.sheet_layout.proofs.NeighbourLaws.{previous-≤, next-<}
use Rattle.sheet_steepness.specs.Along.{height_along}
use Rattle.sheet_steepness.proofs.Rises.{rise_is}
use Rattle.sheet_steepness.proofs.slopes.stiffened.Goals.{After-from}
use Rattle.sheet_steepness.proofs.slopes.stiffened.Goals as goal

pub height_along-after-requires : goal.height_along-after-requires
height_along-after-requires c = (c.requires.0, rw (c.next.ensures, c.lines.ensures.0) (next-< _ _ c.requires.2), c.requires.3)

pub height_along-before-requires : goal.height_along-before-requires
height_along-before-requires c = (c.requires.0, omega (arith, c.previous.ensures, previous-≤ c.args.k, c.requires.2), c.requires.3)

-- the product that the code makes
abbrev product : After-from → Operand
product c =
    let difference = known w64 c.height_along-after.ensures.1 tt ⊟ known w64 c.height_along-before.ensures.1 tt in
    returned w64 c.from.ensures (is_within (pos c.args.stiffness) c.requires.1) tt ⊠ stored w64 difference tt

pub overflow_mul-result : goal.overflow_mul-result
overflow_mul-result c = asks w64 (product (goal.at.overflow_mul-result c).After-from) tt

pub returns : goal.returns
returns c =
    let product = product (goal.at.returns c).After-from in
    let a = c.args in
    let next_is = c.next.ensures ∙ ap (λ n. next n a.k) c.lines.ensures.0 in
    let e = gives w64 product tt in
    (e ∙ rise_is a.stiffness _ (height_along a.axis a.sheet.now a.across) a.k c.height_along-after.ensures.0 next_is c.height_along-before.ensures.0 c.previous.ensures, subst⁻¹ (λ z. z within (2 ^ 28)) e product.bounded)
