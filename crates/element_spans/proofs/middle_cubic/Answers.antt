-- `element_spans::middle_cubic` meets its contract. Assumes nothing.
use Rattle.std.proofs.Common.{sym, ◌∙◌, ap}
use Rattle.element_sibson.specs.Element.{sibson}
use Rattle.element_cell.specs.Cell.{pixel_cell}
use Rattle.element_cell.specs.Corners.{corners}
use Rattle.element_cell.specs.Pieces.{piece_of}
use Rattle.element_row_cubic.specs.Row.{along_row}
use Rattle.element_spans.proofs.Crossing.{upper_middle, lower_middle}
use Rattle.element_spans.proofs.middle_cubic.Goals as goal

pub returns-then-upper : goal.returns-then-upper
unfolding piece_of
returns-then-upper c = let p = c.args.p in
    c.cubic.ensures ∙ ap (λ k. along_row (pixel_cell p) (sibson (corners c.args.n) k) p.b) (sym (upper_middle p (sym c.requires.1 ∙ c.if-upper.true)))

pub returns : goal.returns
unfolding piece_of
returns c = let p = c.args.p in
    c.cubic-2.ensures ∙ ap (λ k. along_row (pixel_cell p) (sibson (corners c.args.n) k) p.b) (sym (lower_middle p (sym c.requires.1 ∙ c.if-upper.false)))
