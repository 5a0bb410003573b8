-- `element_evaluation::bend_xx_of` meets its contract. Assumes nothing.
use Rattle.element_evaluation.proofs.Exact.{bend_xx_is}
use Rattle.element_evaluation.proofs.Factors.{cube_is, length_is, in_64ths, ratio, reading_is}
use Rattle.element_evaluation.proofs.bend_xx_of.Goals as goal

pub round-requires : goal.round-requires
round-requires c = let n = in_64ths c.at-n.ensures.small in ratio c.p.invariant (cube_is c.cube.ensures) (length_is c.length.ensures) n n.bounded

pub returns : goal.returns
returns c = rw (← c.p.view_is)
    (reading_is c.p.invariant (cube_is c.cube.ensures) (length_is c.length.ensures) (in_64ths c.at-n.ensures.small) c.round.type_inv c.round.ensures
    (rw (c.at-n.ensures.is, c.by_rr.ensures, ← c.p.view_is) (bend_xx_is _ _ _ _)))
