-- `sheet_nodes::node` meets its contract. Assumes nothing.
use Rattle.std.proofs.Common.{refl}
use Rattle.sheet_nodes.proofs.Answers.{looked_none, looked_found}
use Rattle.sheet_nodes.proofs.node.Goals as goal

pub returns-then-is_err : goal.returns-then-is_err
returns-then-is_err c = rw (looked_none _ _ _ _ c.node_refusal.ensures c.if-is_err.ensures.value) (record { bytes = refl; block = refl; address = refl })

pub returns : goal.returns
returns c = rw (looked_found _ _ _ _ c.node_refusal.ensures c.if-is_err.ensures.value) c.found.ensures
