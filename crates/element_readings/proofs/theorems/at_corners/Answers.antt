-- `element_readings::theorems::at_corners`: the readings at a corner are its own numbers. Assumes nothing.
use mathlib.Core.Path.{refl}
use Rattle.element_readings.proofs.AtCorners.{at_corners}
use Rattle.element_readings.proofs.theorems.at_corners.Goals as goal

pub returns : goal.returns
returns c = (refl, at_corners)
