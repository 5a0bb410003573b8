-- `element_turnings::theorems::joined`: a piece's coefficients give the piece, and are of the size asked for. Assumes nothing.
use Rattle.std.proofs.Common.{refl}
use Rattle.element_turnings.proofs.Joined.{joined}
use Rattle.element_turnings.proofs.theorems.joined.Goals as goal

pub returns : goal.returns
returns c = (refl, joined)
