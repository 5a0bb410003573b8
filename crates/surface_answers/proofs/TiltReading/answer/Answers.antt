-- `surface_answers::TiltReading::answer` meets its contract. Assumes nothing.
use mathlib.Core.Path.{refl}
use Rattle.surface_answers.specs.Answers.{outcome, answered}
use Rattle.surface_answers.proofs.Floats.{in_float_lem, divides}
use Rattle.surface_answers.proofs.TiltReading.answer.Goals as goal

pub int_to_float-result : goal.int_to_float-result
int_to_float-result c = in_float_lem _ c.requires.0

pub int_to_float-result-2 : goal.int_to_float-result-2
int_to_float-result-2 c = in_float_lem _ c.requires.1

pub returns : goal.returns
unfolding outcome answered
returns c = rw (divides 1 _ c.requires.0, divides 1 _ c.requires.1) refl
