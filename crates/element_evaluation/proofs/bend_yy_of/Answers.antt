-- `element_evaluation::bend_yy_of` meets its contract. Assumes nothing.
use Rattle.std.proofs.Common.{w64}
use Rattle.integers.proofs.Operand.{asks}
use Rattle.element_evaluation.proofs.Exact.{bend_yy_is}
use Rattle.element_evaluation.proofs.Factors.{cube_is, length_is, divisor, in_64ths, ratio, reading_is}
use Rattle.element_evaluation.proofs.bend_yy_of.Goals as goal

pub overflow_mul-length-2 : goal.overflow_mul-length-2
overflow_mul-length-2 c = asks w64 (divisor c.p.invariant (length_is c.length.ensures) (cube_is c.cube.ensures)) tt

pub round-requires : goal.round-requires
round-requires c = let n = in_64ths c.at-n.ensures.small in ratio c.p.invariant (length_is c.length.ensures) (cube_is c.cube.ensures) n n.bounded

pub returns : goal.returns
returns c = rw (← c.p.view_is)
    (reading_is c.p.invariant (length_is c.length.ensures) (cube_is c.cube.ensures) (in_64ths c.at-n.ensures.small) c.round.type_inv c.round.ensures
    (rw (c.at-n.ensures.is, c.by_ss.ensures, ← c.p.view_is) (bend_yy_is _ _ _ _)))
