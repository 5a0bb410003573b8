-- What the loop of `sheet_layout::gathering::some` keeps: the flag says of the indices before the k-th what the test says there.
use Rattle.std.proofs.Common.{◌≡◌, ℕ, Bool, ◌<◌}
use Rattle.sheet_layout.specs.Some.{some}
use Rattle.sheet_layout.proofs.gathering.some.Given as goal

abbrev pub invariant-loop-k : goal.invariant-loop-k
invariant-loop-k g l = (p : ℕ → Bool) → ((k : ℕ) (b : Bool) → k < l.count → goal.F-post g l.test k b → b ≡ p k) → l.found ≡ some p l.k
