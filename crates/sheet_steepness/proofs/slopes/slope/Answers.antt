-- `sheet_steepness::slopes::slope` meets its contract. Assumes nothing.
use Rattle.std.proofs.Common.{◌∙◌, w64}
use Rattle.integers.proofs.Operand.{unchanged}
use Rattle.sheet_steepness.proofs.Along.{slope_is}
use Rattle.sheet_steepness.proofs.Quotients.{quotient_is}
use Rattle.sheet_steepness.proofs.slopes.slope.Goals as goal

pub returns : goal.returns
returns c = unchanged w64 c.round.type_inv ∙ c.round.ensures ∙ quotient_is c.stiffened.ensures c.divisor-divisor.ensures ∙ slope_is c.args.axis _ _ _ _
