-- `surface_answers::BendReading::answer` meets its contract. Assumes nothing.
use mathlib.Core.Path.{refl}
use Rattle.surface_answers.specs.Answers.{outcome, answered}
use Rattle.surface_answers.proofs.Floats.{in_float_lem, divides}
use Rattle.surface_answers.proofs.BendReading.answer.Goals as goal

pub int_to_float-result : goal.int_to_float-result
int_to_float-result c = in_float_lem _ c.requires.0

pub int_to_float-result-2 : goal.int_to_float-result-2
int_to_float-result-2 c = in_float_lem _ c.requires.1

pub int_to_float-result-3 : goal.int_to_float-result-3
int_to_float-result-3 c = in_float_lem _ c.requires.2

pub returns : goal.returns
unfolding outcome answered
returns c = rw (divides 2 _ c.requires.0, divides 2 _ c.requires.1, divides 2 _ c.requires.2) refl
