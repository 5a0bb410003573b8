-- `sheet_layout::node::Node::in_range` meets its contract. Assumes nothing.
use Rattle.std.proofs.Common.{rules}
use Rattle.sheet_layout.specs.Format.{height_in, slope_in, node_in}
use Rattle.sheet_layout.proofs.node.Node.in_range.Goals as goal

pub returns : goal.returns
unfolding node_in height_in slope_in
returns c = search rules
