-- What the loop of `surface_runs::run` keeps: the run has made its first steps, and the next pixel lies in the column that it has come to.
use Rattle.std.proofs.Common.{◌-◌}
use Rattle.sheet_calls.specs.WellFormed.{OnMesh}
use Rattle.surface_runs.proofs.Turns.{Turn}
use Rattle.surface_runs.proofs.run.Given as goal

abbrev pub invariant-loop-done : goal.invariant-loop-done
invariant-loop-done l =
    (mesh : OnMesh l.sheet-2 l.x l.y l.budget) → Turn l.sheet-2 l.x l.y l.budget mesh l.initial.row l.row l.column l.done

abbrev pub decreases-loop-done : goal.decreases-loop-done
decreases-loop-done l = l.budget - l.done
