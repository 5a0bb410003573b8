-- What the loop of `element_levels::fill_levels` has at each turn: its row is underway, and it has the differences of its offset. Assumes nothing.
use Rattle.std.proofs.Common.{◌≡◌, ◌+◌, nat_abs}
use Rattle.integers.specs.Round.{round}
use Rattle.integers.specs.Stepwise.{starting_at, Underway}
use Rattle.element_row_cubic.specs.Row.{at_offset}
use Rattle.element_differences.specs.Differences.{differences}
use Rattle.element_levels.proofs.fill_levels.Given as goal

abbrev pub invariant-loop-k : goal.invariant-loop-k
invariant-loop-k l = let a = l.fn in
    Underway (starting_at a.at (λ k. round (at_offset a.cubic (a.offset + k)) (nat_abs a.d.value))) a.at a.count a.row l.row l.k × (l.z ≡ differences a.cubic (a.offset + l.k))
