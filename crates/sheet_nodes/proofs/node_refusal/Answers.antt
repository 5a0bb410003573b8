-- `sheet_nodes::node_refusal` meets its contract. Assumes nothing.
use Rattle.std.proofs.Common.{sym, ◌∙◌, rules}
use Rattle.sheet_calls.proofs.Chains.{accepts, lookup_is}
use Rattle.sheet_calls.proofs.Refused.{refused_first}
use Rattle.sheet_calls.proofs.WellFormed.{header_there}
use Rattle.sheet_nodes.proofs.Answers.{node_answer}
use Rattle.sheet_nodes.proofs.node_refusal.Goals as goal

pub returns-in_err-sheet_refusal : goal.returns-in_err-sheet_refusal
returns-in_err-sheet_refusal c = let h = refused_first _ _ (lookup_is c.args.sheet.now c.args.column c.args.row) _ c.in_err-sheet_refusal.ensures in search rules

pub no_node-requires : goal.no_node-requires
no_node-requires c = header_there _ (accepts (sym c.in_ok-sheet_refusal.ensures))

pub returns-then-no_node : goal.returns-then-no_node
returns-then-no_node c = node_answer _ _ _ c.in_ok-sheet_refusal.ensures (sym c.no_node.ensures ∙ c.if-no_node.true)

pub returns : goal.returns
returns c = node_answer _ _ _ c.in_ok-sheet_refusal.ensures (sym c.no_node.ensures ∙ c.if-no_node.false)
