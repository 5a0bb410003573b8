-- `surface_places::Lines::of` meets its contract. Assumes nothing.
use Rattle.surface_places.proofs.Axes.{mesh}
use Rattle.surface_places.proofs.Lines.of.Goals as goal

pub invariant_of-result : goal.invariant_of-result
invariant_of-result c = record { mesh = mesh _ c.args.sheet.accepted }
