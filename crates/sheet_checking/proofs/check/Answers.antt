-- `sheet_checking::check` meets its contract. Assumes nothing.
use Rattle.std.proofs.Common.{sym, ◌∙◌}
use Rattle.sheet_calls.proofs.Chains.{check_is}
use Rattle.sheet_checking.proofs.check.Goals as goal

pub returns : goal.returns
returns c = c.sheet_refusal.ensures ∙ sym (check_is _)
