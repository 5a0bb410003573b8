-- `sheet_calls::theorems::accepted_laws` meets its contract. Assumes nothing.
use mathlib.Core.Path.{refl}
use Rattle.sheet_calls.proofs.WellFormed.{accepted_laws}
use Rattle.sheet_calls.proofs.theorems.accepted_laws.Goals as goal

pub returns : goal.returns
returns c = (refl, accepted_laws)
