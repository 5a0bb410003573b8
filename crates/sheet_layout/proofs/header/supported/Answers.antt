-- `sheet_layout::header::supported` meets its contract. Assumes nothing.
use Rattle.std.proofs.Common.{refl}
use Rattle.sheet_layout.specs.Format.{supported}
use Rattle.sheet_layout.proofs.header.supported.Goals as goal

pub returns : goal.returns
unfolding supported
returns c = refl
