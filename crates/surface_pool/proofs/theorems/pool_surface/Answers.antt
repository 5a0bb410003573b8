-- `surface_pool::theorems::pool_surface` meets its contract. Assumes nothing.
use mathlib.Core.Path.{refl}
use Rattle.surface_pool.proofs.Levels.{pool_surface}
use Rattle.surface_pool.proofs.theorems.pool_surface.Goals as goal

pub returns : goal.returns
returns c = (refl, pool_surface)
