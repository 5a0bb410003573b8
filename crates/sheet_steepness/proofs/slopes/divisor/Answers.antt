-- `sheet_steepness::slopes::divisor` meets its contract. Assumes nothing.
use Rattle.std.proofs.Common.{◌≡◌, ℕ, ◌∙◌, ap, arith, w64}
use mathlib.Core.Path.{subst⁻¹}
use Rattle.integers.specs.Within.{◌within◌}
use Rattle.integers.specs.Ratio.{Denominates}
use Rattle.integers.proofs.Operand.{gives}
use Rattle.sheet_layout.specs.Axis.{lines_of, line_of}
use Rattle.sheet_layout.specs.Neighbours.{previous, next}
use Rattle.sheet_layout.proofs.NeighbourLaws.{previous-≤, next-<}
use Rattle.sheet_steepness.proofs.Gaps.{denominates, rising, gap_is, grains}
use Rattle.sheet_steepness.proofs.slopes.divisor.Goals.{After-line-before}
use Rattle.sheet_steepness.proofs.slopes.divisor.Goals as goal

pub line-after-requires : goal.line-after-requires
line-after-requires c = (omega (arith, c.requires.0), rw (c.next.ensures, c.lines.ensures.0) (next-< _ _ c.requires.3))

pub line-before-requires : goal.line-before-requires
line-before-requires c = (omega (arith, c.requires.0), omega (arith, c.previous.ensures, previous-≤ c.args.k, c.requires.3))

-- the two positions, as the lines have them
module _ (c : After-line-before) where
  abbrev line : ℕ → ℕ
  line = line_of c.args.axis c.args.sheet.now

  after_is : c.line-after.result ≡ line (next (lines_of c.args.axis c.args.sheet.now) c.args.k)
  after_is = c.line-after.ensures.0 ∙ ap line (c.next.ensures ∙ ap (λ n. next n c.args.k) c.lines.ensures.0)

  before_is : c.line-before.result ≡ line (previous c.args.k)
  before_is = c.line-before.ensures.0 ∙ ap line c.previous.ensures

pub overflow_sub-after : goal.overflow_sub-after
overflow_sub-after c =
    let p = c.requires in
    let d = (goal.at.overflow_sub-after c).After-line-before in
    rising (line d) _ _ p.1 p.2 p.3 (after_is d) (before_is d)

pub returns : goal.returns
returns c =
    let p = c.requires in
    let d = (goal.at.returns c).After-line-before in
    let e = gives w64 (grains (line d) _ _ p.1 p.2 p.3 (after_is d) (before_is d) c.from.ensures) tt ∙ gap_is (line d) _ _ p.1 p.2 p.3 (after_is d) (before_is d) in
    let q = denominates (line d) _ _ p.1 p.2 p.3 in
    (e, subst⁻¹ Denominates e q.0, subst⁻¹ (λ z. z within 8192) e q.1)
