-- `element_turnings::transposed` meets its contract. Assumes nothing.
use Rattle.std.proofs.Common.{[], ◌∷◌}
use Rattle.integers.proofs.Parameters.{kept}
use Rattle.element_sibson.specs.Element.{transposed}
use Rattle.element_cell.specs.Coefficients.{listed, halves}
use Rattle.element_turnings.proofs.transposed.Goals as goal

pub returns : goal.returns
unfolding listed transposed halves
returns c i = let k = kept c.args.k c.well_formed.0 in
    k 0 i ∷ k 2 i ∷ k 1 i ∷ k 5 i ∷ k 4 i ∷ k 3 i ∷ k 9 i ∷ k 8 i ∷ k 7 i ∷ k 6 i ∷ []
