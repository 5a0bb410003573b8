-- `element_sibson::theorems::derivatives`: the derivatives are derivatives. Assumes nothing.
use mathlib.Core.Path.{refl}
use Rattle.element_sibson.proofs.Derivatives.{derivatives}
use Rattle.element_sibson.proofs.theorems.derivatives.Goals as goal

pub returns : goal.returns
returns c = (refl, derivatives)
