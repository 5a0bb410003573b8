-- `sheet_layout::ranges::some_node_out` meets its contract. Assumes nothing.
use Rattle.std.proofs.Common.{◌∙◌}
use Rattle.sheet_layout.proofs.NodeWords.{some_out}
use Rattle.sheet_layout.proofs.ranges.some_node_out.Goals as goal

pub returns : goal.returns
returns c = c.some_word_out.ensures ∙ rw (c.nodes_offset.ensures.0, c.node_count.ensures.0) (some_out _)
