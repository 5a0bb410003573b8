-- `element_sibson::theorems::fraction_laws`: equality of fractions is an equivalence that sums and products respect. Assumes nothing.
use mathlib.Core.Path.{refl}
use Rattle.element_sibson.proofs.Fractions.{fraction_laws}
use Rattle.element_sibson.proofs.theorems.fraction_laws.Goals as goal

pub returns : goal.returns
returns c = (refl, fraction_laws)
