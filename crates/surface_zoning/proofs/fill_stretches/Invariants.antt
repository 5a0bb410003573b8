-- The loop of `surface_zoning::fill_stretches`. Assumes nothing.
use Rattle.std.proofs.Common.{◌-◌}
use Rattle.surface_zoning.proofs.Turns.{Turn}
use Rattle.surface_zoning.proofs.fill_stretches.Given as goal

abbrev pub invariant-loop-done : goal.invariant-loop-done
invariant-loop-done l = Turn l.sheet l.zones l.x l.y l.fn.row l.row l.done

abbrev pub decreases-loop-done : goal.decreases-loop-done
decreases-loop-done l = l.count - l.done
