-- `sheet_sums::some_sum_out` meets its contract. Assumes nothing.
use Rattle.std.proofs.Common.{◌∙◌}
use Rattle.sheet_sums.proofs.Numbers.{some_sum}
use Rattle.sheet_sums.proofs.some_sum_out.Goals as goal

pub returns : goal.returns
returns c = let n = c.of.ensures in c.some_sum_out.ensures ∙ rw (n.first, n.second, n.start, n.count) (some_sum c.requires)
