-- `sheet_checking::body_refusal` meets its contract. Assumes nothing.
use Rattle.std.proofs.Common.{sym, ◌∙◌}
use Rattle.sheet_calls.proofs.Conditions.{condition_laws}
use Rattle.sheet_checking.proofs.Verdicts.{header, by_length, by_lines, by_nodes, passes}
use Rattle.sheet_checking.proofs.body_refusal.Goals as goal

pub other_length-requires : goal.other_length-requires
other_length-requires c = header _ c.requires.0

pub returns-then-other_length : goal.returns-then-other_length
returns-then-other_length c = by_length _ c.requires (sym c.other_length.ensures ∙ c.if-other_length.true)

pub wrong_lines-requires : goal.wrong_lines-requires
wrong_lines-requires c = (condition_laws.four _).0 (sym c.other_length.ensures ∙ c.if-other_length.false)

pub returns-then-wrong_lines : goal.returns-then-wrong_lines
returns-then-wrong_lines c =
    by_lines _ c.requires (sym c.other_length.ensures ∙ c.if-other_length.false) (sym c.wrong_lines.ensures ∙ c.if-wrong_lines.true)

pub wrong_nodes-requires : goal.wrong_nodes-requires
wrong_nodes-requires c = (condition_laws.four _).0 (sym c.other_length.ensures ∙ c.if-other_length.false)

pub returns-then-wrong_nodes : goal.returns-then-wrong_nodes
returns-then-wrong_nodes c =
    by_nodes _ c.requires (sym c.other_length.ensures ∙ c.if-other_length.false) (sym c.wrong_lines.ensures ∙ c.if-wrong_lines.false) (sym c.wrong_nodes.ensures ∙ c.if-wrong_nodes.true)

pub returns : goal.returns
returns c =
    passes _ c.requires (sym c.other_length.ensures ∙ c.if-other_length.false) (sym c.wrong_lines.ensures ∙ c.if-wrong_lines.false) (sym c.wrong_nodes.ensures ∙ c.if-wrong_nodes.false)
