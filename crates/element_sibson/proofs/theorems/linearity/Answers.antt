-- `element_sibson::theorems::linearity`: no square term is a straight line. Assumes nothing.
use mathlib.Core.Path.{refl}
use Rattle.element_sibson.proofs.Linearity.{linearity}
use Rattle.element_sibson.proofs.theorems.linearity.Goals as goal

pub returns : goal.returns
returns c = (refl, linearity)
