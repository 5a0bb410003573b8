-- `sheet_nodes::offset` meets its contract. Assumes nothing.
use Rattle.sheet_calls.proofs.Chains.{lookup_held}
use Rattle.sheet_calls.proofs.WellFormed.{nodes_there}
use Rattle.sheet_nodes.proofs.offset.Goals as goal

pub node_offset-requires : goal.node_offset-requires
node_offset-requires c = let h = lookup_held _ _ _ c.requires in (nodes_there _ h.accepted, h.column, h.row)
