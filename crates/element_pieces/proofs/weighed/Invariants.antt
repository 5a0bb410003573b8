-- After i turns the first i products are added. Assumes nothing.
use Rattle.std.proofs.Common.{◌≡◌}
use Rattle.element_pieces.proofs.Sums.{sum_of}
use Rattle.element_pieces.proofs.weighed.Given as goal

abbrev pub invariant-loop-i : goal.invariant-loop-i
invariant-loop-i l = l.sum ≡ sum_of l.n l.table l.power l.i
