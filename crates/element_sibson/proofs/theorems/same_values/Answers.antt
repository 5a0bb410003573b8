-- `element_sibson::theorems::same_values`: equal cubics are those with the same value at every point. Assumes nothing.
use mathlib.Core.Path.{refl}
use Rattle.element_sibson.proofs.SameValues.{same_values_lem}
use Rattle.element_sibson.proofs.theorems.same_values.Goals as goal

pub returns : goal.returns
returns c = (refl, same_values_lem)
