-- `sheet_nodes::no_node` meets its contract. Assumes nothing.
use Rattle.std.proofs.Common.{refl}
use Rattle.sheet_calls.specs.Refusals.{no_node}
use Rattle.sheet_nodes.proofs.no_node.Goals as goal

pub returns : goal.returns
unfolding no_node
returns c = rw (c.columns.ensures.0, c.rows.ensures.0) refl
