-- `sheet_layout::header::count_in` meets its contract. Assumes nothing.
use Rattle.std.proofs.Common.{rules}
use Rattle.sheet_layout.specs.Format.{count_in}
use Rattle.sheet_layout.proofs.header.count_in.Goals as goal

pub returns : goal.returns
unfolding count_in
returns c = search rules
