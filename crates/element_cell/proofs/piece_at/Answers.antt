-- `element_cell::piece_at` meets its contract. Assumes nothing.
use Rattle.std.proofs.Common.{ap, arith}
use Rattle.element_cell.specs.Pieces.{named}
use Rattle.element_cell.proofs.Pieces.{at_top, at_right, at_bottom, at_left}
use Rattle.element_cell.proofs.piece_at.Goals as goal

pub returns-then-x-y : goal.returns-then-x-y
unfolding named
returns-then-x-y c = rw (← c.p.view_is) (ap named (at_top _ c.p.invariant (omega (arith, c.if-y-x.true)) c.if-x-y.true))

pub returns-then-y-x : goal.returns-then-y-x
unfolding named
returns-then-y-x c = rw (← c.p.view_is) (ap named (at_right _ c.p.invariant (omega (arith, c.if-y-x.true)) c.if-x-y.false))

pub returns-then-q-x : goal.returns-then-q-x
unfolding named
returns-then-q-x c = rw (← c.p.view_is) (ap named (at_bottom _ c.p.invariant c.if-y-x.false c.if-q-x.true))

pub returns : goal.returns
unfolding named
returns c = rw (← c.p.view_is) (ap named (at_left _ c.p.invariant c.if-y-x.false c.if-q-x.false))
