-- `sheet_calls::theorems::lookup_laws` meets its contract. Assumes nothing.
use mathlib.Core.Path.{refl}
use Rattle.sheet_calls.proofs.Lookup.{lookup_laws}
use Rattle.sheet_calls.proofs.theorems.lookup_laws.Goals as goal

pub returns : goal.returns
returns c = (refl, lookup_laws)
