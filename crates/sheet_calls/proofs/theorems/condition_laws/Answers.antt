-- `sheet_calls::theorems::condition_laws` meets its contract. Assumes nothing.
use mathlib.Core.Path.{refl}
use Rattle.sheet_calls.proofs.Conditions.{condition_laws}
use Rattle.sheet_calls.proofs.theorems.condition_laws.Goals as goal

pub returns : goal.returns
returns c = (refl, condition_laws)
