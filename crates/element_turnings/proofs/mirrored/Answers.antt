-- `element_turnings::mirrored` meets its contract. Assumes nothing.
use Rattle.std.proofs.Common.{◌∙◌}
use Rattle.element_sibson.specs.Element.{transposed, flipped, mirrored}
use Rattle.element_cell.specs.Coefficients.{listed, halves}
use Rattle.element_turnings.proofs.Sizes.{transposed_sized}
use Rattle.element_turnings.proofs.mirrored.Goals as goal

pub flipped-requires : goal.flipped-requires
flipped-requires c = rw c.transposed.ensures (transposed_sized c.requires)

pub returns : goal.returns
unfolding listed transposed flipped mirrored halves
returns c =
    c.transposed-2.ensures ∙ (λ i. listed (transposed (halves (c.flipped.ensures i)))) ∙
    (λ i. listed (transposed (flipped (halves (c.transposed.ensures i)))))
