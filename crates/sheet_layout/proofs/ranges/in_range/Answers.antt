-- `sheet_layout::ranges::in_range` meets its contract. Assumes nothing.
use Rattle.std.proofs.Common.{rules}
use Rattle.sheet_layout.specs.Format.{slope_in}
use Rattle.sheet_layout.proofs.ranges.in_range.Goals as goal

pub returns : goal.returns
unfolding slope_in
returns c = search rules
