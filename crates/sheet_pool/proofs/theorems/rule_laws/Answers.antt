-- `sheet_pool::theorems::rule_laws` meets its contract. Assumes nothing.
use mathlib.Core.Path.{refl}
use Rattle.sheet_calls.proofs.Rules.{rule_laws}
use Rattle.sheet_pool.proofs.theorems.rule_laws.Goals as goal

pub returns : goal.returns
returns c = (refl, rule_laws)
