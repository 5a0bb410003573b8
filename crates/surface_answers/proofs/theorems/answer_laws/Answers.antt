-- `surface_answers::theorems::answer_laws`: the number and the values tell answers apart. Assumes nothing.
use mathlib.Core.Path.{refl}
use Rattle.surface_answers.proofs.Told.{answer_laws}
use Rattle.surface_answers.proofs.theorems.answer_laws.Goals as goal

pub returns : goal.returns
returns c = (refl, answer_laws)
