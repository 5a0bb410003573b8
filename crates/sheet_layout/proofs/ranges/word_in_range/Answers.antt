-- `sheet_layout::ranges::word_in_range` meets its contract. Assumes nothing.
use Rattle.sheet_layout.proofs.NodeWords.{bits_in}
use Rattle.sheet_layout.proofs.ranges.word_in_range.Goals as goal

pub returns : goal.returns
returns c = bits_in _ c.requires
