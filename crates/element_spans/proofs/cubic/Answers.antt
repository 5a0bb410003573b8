-- `element_spans::cubic` meets its contract. Assumes nothing.
use Rattle.std.proofs.Common.{◌∙◌, ap}
use Rattle.element_cell.specs.Cell.{pixel_cell}
use Rattle.element_cell.specs.Corners.{corners}
use Rattle.element_cell.specs.Coefficients.{halves}
use Rattle.element_cell.specs.Pieces.{piece_of}
use Rattle.element_turnings.proofs.Joined.{joined}
use Rattle.element_row_cubic.specs.Row.{along_row}
use Rattle.element_spans.proofs.cubic.Goals as goal

pub returns : goal.returns
returns c =
    c.along_row.ensures.is
    ∙ (λ i. let p = c.p.view_is i in along_row (pixel_cell p) ((ap halves c.coefficients.ensures ∙ joined.back (corners c.args.n) (piece_of c.args.piece)) i) p.b)
