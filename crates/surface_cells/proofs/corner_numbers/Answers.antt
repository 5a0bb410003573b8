-- `surface_cells::corner_numbers` meets its contract. Assumes nothing.
use Rattle.std.proofs.Common.{◌∙◌, ap}
use mathlib.Core.Path.{subst⁻¹}
use Rattle.element_sibson.specs.Element.{Nodes, corner_numbers}
use Rattle.element_cell.specs.Cell.{cell}
use Rattle.element_cell.specs.Corners.{arrays, Measured}
use Rattle.element_cell.proofs.Arrays.{held}
use Rattle.surface_of_sheet.proofs.Cells.{measured}
use Rattle.surface_cells.proofs.corner_numbers.Goals as goal

pub corner_numbers-requires : goal.corner_numbers-requires
corner_numbers-requires c =
    let p = c.requires in (subst⁻¹ Measured (held _ c.corner_nodes.ensures) (measured _ c.args.sheet.accepted _ _ p.0), p.1, p.2)

pub returns : goal.returns
returns c =
    c.corner_numbers.ensures ∙ ap (λ (m : Nodes). arrays (corner_numbers (cell c.args.width c.args.height) m)) (held _ c.corner_nodes.ensures)
