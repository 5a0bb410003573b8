-- `surface_places::Lines::outside` meets its contract. Assumes nothing.
use Rattle.surface_places.proofs.Axes.{off_either}
use Rattle.surface_places.proofs.Lines.outside.Goals as goal

pub returns : goal.returns
returns c = rw (c.off_axis.ensures, c.off_axis-2.ensures) (off_either _ _ _)
