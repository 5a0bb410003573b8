-- `surface_places::Lines::in_cell` meets its contract. Assumes nothing.
use Rattle.std.proofs.Common.{refl, add-one}
use Rattle.surface_places.specs.Found.{in_cell}
use Rattle.surface_places.proofs.Lines.in_cell.Goals as goal

pub returns : goal.returns
unfolding in_cell
returns c = rw (c.line-before.ensures.0, c.line-after.ensures.0, add-one c.args.cell) refl
