-- `element_evaluation::tilt_y_of` meets its contract. Assumes nothing.
use Rattle.std.proofs.Common.{w64}
use Rattle.integers.proofs.Operand.{known, asks}
use Rattle.element_evaluation.proofs.Exact.{tilt_y_is}
use Rattle.element_evaluation.proofs.Factors.{square_is, cube_is, divisor, ratio, reading_is}
use Rattle.element_evaluation.proofs.tilt_y_of.Goals as goal

pub overflow_mul-square-2 : goal.overflow_mul-square-2
overflow_mul-square-2 c = asks w64 (divisor c.p.invariant (square_is c.square.ensures) (cube_is c.cube.ensures)) tt

pub round-requires : goal.round-requires
round-requires c = ratio c.p.invariant (square_is c.square.ensures) (cube_is c.cube.ensures) (known w64 c.at-n.ensures.small tt) c.at-n.ensures.small

pub returns : goal.returns
returns c = rw (← c.p.view_is)
    (reading_is c.p.invariant (square_is c.square.ensures) (cube_is c.cube.ensures) (known w64 c.at-n.ensures.small tt) c.round.type_inv c.round.ensures
    (rw (c.at-n.ensures.is, c.by_s.ensures, ← c.p.view_is) (tilt_y_is _ _ _ _)))
