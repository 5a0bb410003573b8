-- `element_cell::holds` meets its contract. Assumes nothing.
use Rattle.element_sibson.specs.Piece.{top, right, bottom, left}
use Rattle.element_cell.specs.Pieces.{piece_of}
use Rattle.element_cell.proofs.Pieces.{held}
use Rattle.element_cell.proofs.holds.Goals as goal

pub returns-in-Top : goal.returns-in-Top
unfolding piece_of
returns-in-Top c = rw (c.in-Top.is, ← c.p.view_is) (held _ c.p.invariant top)

pub returns-in-Right : goal.returns-in-Right
unfolding piece_of
returns-in-Right c = rw (c.in-Right.is, ← c.p.view_is) (held _ c.p.invariant right)

pub returns-in-Bottom : goal.returns-in-Bottom
unfolding piece_of
returns-in-Bottom c = rw (c.in-Bottom.is, ← c.p.view_is) (held _ c.p.invariant bottom)

pub returns-in-Left : goal.returns-in-Left
unfolding piece_of
returns-in-Left c = rw (c.in-Left.is, ← c.p.view_is) (held _ c.p.invariant left)
