-- `surface_cells::corner_nodes` meets its contract. Assumes nothing.
use Rattle.std.proofs.Common.{[], ◌∷◌, add-one, arith, rules}
use Rattle.element_cell.specs.Corners.{arrays, three}
use Rattle.sheet_calls.proofs.WellFormed.{nodes_there}
use Rattle.surface_of_sheet.specs.Surface.{node_numbers, nodes_of}
use Rattle.surface_of_sheet.proofs.Cells.{sound}
use Rattle.surface_cells.proofs.corner_nodes.Goals as goal

pub overflow_add-right : goal.overflow_add-right
overflow_add-right c = let well = sound _ c.args.sheet.accepted in record { fits = omega (arith, well.many_columns, c.requires.column) }

pub overflow_add-below : goal.overflow_add-below
overflow_add-below c = let well = sound _ c.args.sheet.accepted in record { fits = omega (arith, well.many_rows, c.requires.row) }

pub node_numbers-requires : goal.node_numbers-requires
node_numbers-requires c = let there = nodes_there _ c.args.sheet.accepted in search rules

pub node_numbers-requires-2 : goal.node_numbers-requires-2
node_numbers-requires-2 c = let there = nodes_there _ c.args.sheet.accepted in search rules

pub node_numbers-requires-3 : goal.node_numbers-requires-3
node_numbers-requires-3 c = let there = nodes_there _ c.args.sheet.accepted in search rules

pub node_numbers-requires-4 : goal.node_numbers-requires-4
node_numbers-requires-4 c = let there = nodes_there _ c.args.sheet.accepted in search rules

pub returns : goal.returns
unfolding arrays three nodes_of node_numbers
returns c =
    rw (← add-one c.args.column, ← add-one c.args.row)
    (λ t. c.node_numbers.ensures t ∷ c.node_numbers-2.ensures t ∷ c.node_numbers-3.ensures t ∷ c.node_numbers-4.ensures t ∷ [])
