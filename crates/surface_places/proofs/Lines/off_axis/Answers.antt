-- `surface_places::Lines::off_axis` meets its contract. Assumes nothing.
use Rattle.std.proofs.Common.{refl}
use Rattle.surface_places.specs.Found.{off_axis}
use Rattle.surface_places.proofs.Lines.off_axis.Goals as goal

pub returns : goal.returns
unfolding off_axis
returns c = rw (c.line.ensures.0, c.line-2.ensures.0, c.lines-last.ensures.0) refl
