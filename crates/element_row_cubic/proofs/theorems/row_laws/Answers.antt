-- `element_row_cubic::theorems::row_laws`: along a row a height is a cubic in the offset. Assumes nothing.
use Rattle.std.proofs.Common.{refl}
use Rattle.element_row_cubic.proofs.Heights.{row_laws}
use Rattle.element_row_cubic.proofs.theorems.row_laws.Goals as goal

pub returns : goal.returns
returns c = (refl, row_laws)
