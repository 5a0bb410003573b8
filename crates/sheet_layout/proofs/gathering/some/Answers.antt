-- `sheet_layout::gathering::some` meets its contract. Assumes nothing.
use Rattle.std.proofs.Common.{refl}
use Rattle.sheet_layout.specs.Some.{some}
use Rattle.sheet_layout.proofs.Gathered.{gathered, gathered_all}
use Rattle.sheet_layout.proofs.gathering.some.Goals as goal

pub loop-k-init : goal.loop-k-init
unfolding some
loop-k-init g c = λ p h. refl

pub loop-k-preserved : goal.loop-k-preserved
loop-k-preserved g c = λ p h. gathered p _ _ _ (c.loop-k.invariant p h) (h _ _ c.loop-k-test.true c.test-found.ensures)

pub returns : goal.returns
returns g c = λ p h. gathered_all p _ _ _ c.loop-k.auto.k-end c.loop-k-test.false (c.loop-k.invariant p h)
