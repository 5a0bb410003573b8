-- `element_evaluation::bend_xy_of` meets its contract. Assumes nothing.
use Rattle.element_evaluation.proofs.Exact.{bend_xy_is}
use Rattle.element_evaluation.proofs.Factors.{square_is, in_64ths, ratio, reading_is}
use Rattle.element_evaluation.proofs.bend_xy_of.Goals as goal

pub round-requires : goal.round-requires
round-requires c = let n = in_64ths c.at-n.ensures.small in ratio c.p.invariant (square_is c.square.ensures) (square_is c.square-2.ensures) n n.bounded

pub returns : goal.returns
returns c = rw (← c.p.view_is)
    (reading_is c.p.invariant (square_is c.square.ensures) (square_is c.square-2.ensures) (in_64ths c.at-n.ensures.small) c.round.type_inv c.round.ensures
    (rw (c.at-n.ensures.is, c.by_rs.ensures, ← c.p.view_is) (bend_xy_is _ _ _ _)))
