-- `element_sibson::theorems::uniqueness`: two sets that meet the conditions are equal exactly when they agree at the corners. Assumes nothing.
use mathlib.Core.Path.{refl}
use Rattle.element_sibson.proofs.Unique.{uniqueness}
use Rattle.element_sibson.proofs.theorems.uniqueness.Goals as goal

pub returns : goal.returns
returns c = (refl, uniqueness)
