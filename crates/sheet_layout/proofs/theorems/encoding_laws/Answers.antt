-- `sheet_layout::theorems::encoding_laws` meets its contract. Assumes nothing.
use Rattle.std.proofs.Common.{refl}
use Rattle.sheet_layout.proofs.Encoding.{encoding_laws}
use Rattle.sheet_layout.proofs.theorems.encoding_laws.Goals as goal

pub returns : goal.returns
returns c = (refl, encoding_laws)
