-- `sheet_reaching::around` meets its contract. Assumes nothing.
use Rattle.std.proofs.Common.{arith}
use Rattle.sheet_layout.proofs.NeighbourLaws.{previous-≤, next-<}
use Rattle.sheet_reaching.proofs.around.Goals as goal

pub line-before-requires : goal.line-before-requires
line-before-requires c = (c.requires.0, omega (arith, c.previous.ensures, previous-≤ c.args.k))

pub line-after-requires : goal.line-after-requires
line-after-requires c = (c.requires.0, rw (c.next.ensures, c.lines.ensures.0) (next-< _ _ c.requires.1))
