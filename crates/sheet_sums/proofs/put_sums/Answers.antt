-- `sheet_sums::put_sums` meets its contract. Assumes nothing.
use Rattle.std.proofs.Common.{refl, ◌∙◌}
use Rattle.sheet_sums.specs.Sums.{with_sums}
use Rattle.sheet_sums.proofs.Numbers.{all_sums}
use Rattle.sheet_sums.proofs.put_sums.Goals as goal

pub returns : goal.returns
unfolding with_sums
returns c = let n = c.of.ensures in c.put_sums.ensures ∙ rw (n.first, n.second, n.start, n.count, all_sums c.requires.0) refl
