-- `sheet_layout::neighbours::next` meets its contract. Assumes nothing.
use Rattle.std.proofs.Common.{◌∙◌}
use Rattle.sheet_layout.proofs.NeighbourLaws.{one_more}
use Rattle.sheet_layout.proofs.neighbours.next.Goals as goal

pub returns : goal.returns
returns c = c.min.ensures ∙ one_more _ _ c.requires
