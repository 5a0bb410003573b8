-- `surface_places::Lines::find` meets its contract. Assumes nothing.
use Rattle.surface_places.proofs.Axes.{found_is}
use Rattle.surface_places.proofs.Lines.find.Goals as goal

pub returns : goal.returns
returns c = rw (c.cells_along.ensures, c.cells_along-2.ensures) (found_is _ _ _)
