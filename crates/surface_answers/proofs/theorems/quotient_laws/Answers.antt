-- `surface_answers::theorems::quotient_laws`: a small whole number's quotient by the divisor of a reading kind is exact. Assumes nothing.
use mathlib.Core.Path.{refl}
use Rattle.surface_answers.proofs.Quotients.{quotient_laws}
use Rattle.surface_answers.proofs.theorems.quotient_laws.Goals as goal

pub returns : goal.returns
returns c = (refl, quotient_laws)
