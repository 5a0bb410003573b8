-- `sheet_nodes::set_node` meets its contract. Assumes nothing.
use Rattle.std.proofs.Common.{sym, ◌∙◌, rules}
use borrow.Author.Tests.{not-false}
use Rattle.sheet_calls.specs.Refusals.{wrong_numbers}
use Rattle.sheet_calls.proofs.Chains.{setting_is}
use Rattle.sheet_calls.proofs.Refused.{refused_first}
use Rattle.sheet_layout.specs.Format.{node}
use Rattle.sheet_nodes.proofs.Answers.{set_refused, set_wrong, set_done}
use Rattle.sheet_nodes.proofs.set_node.Goals as goal

pub returns-in_err-node_refusal-clause-answer : goal.returns-in_err-node_refusal-clause-answer
returns-in_err-node_refusal-clause-answer c =
    let a = c.args in
    let v = a.numbers in
    let h = refused_first _ _ (setting_is a.sheet.now a.column a.row (node v.height v.x_slope v.y_slope)) _ c.in_err-node_refusal.ensures in
    search rules

pub returns-in_err-node_refusal-clause-sheet : goal.returns-in_err-node_refusal-clause-sheet
returns-in_err-node_refusal-clause-sheet c = set_refused _ _ _ _ _ c.in_err-node_refusal.ensures

pub returns-then-wrong_numbers : goal.returns-then-wrong_numbers
returns-then-wrong_numbers c =
    let w = set_wrong _ _ _ _ c.in_ok-node_refusal.ensures c.wrong_numbers.ensures c.if-wrong_numbers.true in
    record { answer = w.0; sheet = w.1 }

pub put_node-requires-clause-y_slope_value : goal.put_node-requires-clause-y_slope_value
unfolding wrong_numbers
put_node-requires-clause-y_slope_value c = not-false _ (sym c.wrong_numbers.ensures ∙ c.if-wrong_numbers.false)

pub returns : goal.returns
returns c =
    let w = set_done _ _ _ _ c.in_ok-node_refusal.ensures c.wrong_numbers.ensures c.if-wrong_numbers.false c.offset-at.ensures.0 c.put_node.ensures in
    record { answer = w.0; sheet = w.1 }
