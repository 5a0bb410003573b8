-- `element_pieces::on_left` meets its contract. Assumes nothing.
use Rattle.std.proofs.Common.{◌∙◌}
use Rattle.element_sibson.specs.Element.{transposed, exchanged, on_top, on_left}
use Rattle.element_cell.specs.Corners.{corners}
use Rattle.element_cell.specs.Coefficients.{listed, halves}
use Rattle.element_cell.proofs.Arrays.{held}
use Rattle.element_corners.proofs.Turned.{exchanged_within}
use Rattle.element_pieces.proofs.on_left.Goals as goal

pub on_top-requires : goal.on_top-requires
on_top-requires c = rw (held _ c.exchanged.ensures) (exchanged_within c.requires)

pub returns : goal.returns
unfolding listed transposed halves on_left
returns c = c.transposed.ensures ∙ (λ i. listed (transposed (halves (c.on_top.ensures i)))) ∙
    (λ i. listed (transposed (on_top (held (exchanged (corners c.args.n)) c.exchanged.ensures i))))
