-- `element_corners::swap` meets its contract. Assumes nothing.
use Rattle.std.proofs.Common.{[], ◌∷◌}
use Rattle.element_sibson.specs.Element.{swap}
use Rattle.integers.proofs.Parameters.{kept}
use Rattle.element_cell.specs.Corners.{jet_of, three}
use Rattle.element_corners.proofs.swap.Goals as goal

pub returns : goal.returns
unfolding jet_of three swap
returns c i = let k = kept c.args.c c.well_formed.0 in k 0 i ∷ k 2 i ∷ k 1 i ∷ []
