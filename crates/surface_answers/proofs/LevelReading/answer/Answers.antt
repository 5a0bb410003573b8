-- `surface_answers::LevelReading::answer` meets its contract. Assumes nothing.
use mathlib.Core.Path.{refl}
use Rattle.surface_answers.specs.Answers.{outcome, answered}
use Rattle.surface_answers.proofs.Floats.{in_float_lem, divides}
use Rattle.surface_answers.proofs.LevelReading.answer.Goals as goal

pub int_to_float-result : goal.int_to_float-result
int_to_float-result c = in_float_lem _ c.requires

pub returns : goal.returns
unfolding outcome answered
returns c = rw (divides 0 _ c.requires) refl
