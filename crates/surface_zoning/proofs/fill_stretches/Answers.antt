-- `surface_zoning::fill_stretches` meets its contract. Assumes nothing.
use Rattle.surface_zoning.proofs.Turns.{first_turn, lent, next_turn}
use Rattle.surface_zoning.proofs.fill_stretches.Goals as goal

pub loop-done-init : goal.loop-done-init
loop-done-init c = first_turn _ _ _ _ _

pub fill_stretch-requires : goal.fill_stretch-requires
fill_stretch-requires c = lent _ _ _ _ _ c.loop-done.invariant _ c.loop-done-test.true c.stretch.ensures.1 c.requires c.stretch.ensures.2

pub loop-done-preserved : goal.loop-done-preserved
loop-done-preserved c = next_turn _ _ _ _ _ c.loop-done.invariant _ c.loop-done-test.true c.stretch.ensures.1 c.fill_stretch.ensures
