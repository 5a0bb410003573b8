-- `element_evaluation::tilt_x_of` meets its contract. Assumes nothing.
use Rattle.std.proofs.Common.{w64}
use Rattle.integers.proofs.Operand.{known, asks}
use Rattle.element_evaluation.proofs.Exact.{tilt_x_is}
use Rattle.element_evaluation.proofs.Factors.{cube_is, square_is, divisor, ratio, reading_is}
use Rattle.element_evaluation.proofs.tilt_x_of.Goals as goal

pub overflow_mul-cube-2 : goal.overflow_mul-cube-2
overflow_mul-cube-2 c = asks w64 (divisor c.p.invariant (cube_is c.cube.ensures) (square_is c.square.ensures)) tt

pub round-requires : goal.round-requires
round-requires c = ratio c.p.invariant (cube_is c.cube.ensures) (square_is c.square.ensures) (known w64 c.at-n.ensures.small tt) c.at-n.ensures.small

pub returns : goal.returns
returns c = rw (← c.p.view_is)
    (reading_is c.p.invariant (cube_is c.cube.ensures) (square_is c.square.ensures) (known w64 c.at-n.ensures.small tt) c.round.type_inv c.round.ensures
    (rw (c.at-n.ensures.is, c.by_r.ensures, ← c.p.view_is) (tilt_x_is _ _ _ _)))
