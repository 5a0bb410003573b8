-- `sheet_checking::accepted` meets its contract. Assumes nothing.
use Rattle.std.proofs.Common.{sym}
use Rattle.sheet_calls.proofs.Chains.{accepts}
use Rattle.sheet_checking.proofs.accepted.Goals as goal

pub invariant_of-result : goal.invariant_of-result
invariant_of-result c = record { accepted = accepts (sym c.in_ok-sheet_refusal.ensures) }
