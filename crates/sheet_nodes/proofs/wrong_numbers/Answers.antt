-- `sheet_nodes::wrong_numbers` meets its contract. Assumes nothing.
use Rattle.std.proofs.Common.{not, ap}
use Rattle.sheet_calls.specs.Refusals.{wrong_numbers}
use Rattle.sheet_nodes.proofs.wrong_numbers.Goals as goal

pub returns : goal.returns
unfolding wrong_numbers
returns c = ap not c.in_range.ensures
