-- `sheet_pool::theorems::pool_laws` meets its contract. Assumes nothing.
use mathlib.Core.Path.{refl}
use Rattle.sheet_pool.proofs.Laws.{pool_laws}
use Rattle.sheet_pool.proofs.theorems.pool_laws.Goals as goal

pub returns : goal.returns
returns c = (refl, pool_laws)
