-- `sheet_layout::neighbours::previous` meets its contract. Assumes nothing.
use Rattle.std.proofs.Common.{◌∙◌}
use Rattle.sheet_layout.proofs.NeighbourLaws.{one_less}
use Rattle.sheet_layout.proofs.neighbours.previous.Goals as goal

pub returns : goal.returns
returns c = c.saturating_sub.ensures ∙ one_less _
