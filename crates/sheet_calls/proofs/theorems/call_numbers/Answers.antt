-- `sheet_calls::theorems::call_numbers` meets its contract. Assumes nothing.
use mathlib.Core.Path.{refl}
use Rattle.sheet_calls.proofs.Chains.{call_numbers}
use Rattle.sheet_calls.proofs.theorems.call_numbers.Goals as goal

pub returns : goal.returns
returns c = (refl, call_numbers)
