-- `light_sheet_c::lvs_node_offset` meets its contract. Assumes nothing.
use Rattle.std.proofs.Common.{refl, sym, ◌∙◌}
use Rattle.sheet_calls.proofs.Chains.{lookup_held}
use Rattle.sheet_calls.proofs.Lookup.{lookup_laws}
use Rattle.sheet_calls.proofs.Refused.{number-not_zero}
use Rattle.sheet_calls.proofs.WellFormed.{nodes_there}
use Rattle.light_sheet_c.proofs.lvs_node_offset.Goals as goal

pub node_offset-requires : goal.node_offset-requires
node_offset-requires c = let h = lookup_held _ _ _ (sym c.in-Ok.ensures.answer) in (nodes_there _ h.accepted, h.column, h.row)

pub returns-in-Ok-clause-answer : goal.returns-in-Ok-clause-answer
returns-in-Ok-clause-answer c = rw (lookup_laws.found _ _ _ (sym c.in-Ok.ensures.answer)) c.node_offset.ensures.0

pub returns-in-Err-clause-answer : goal.returns-in-Err-clause-answer
returns-in-Err-clause-answer c = let h = c.in-Err.ensures.answer in rw (lookup_laws.refused c.args.sheet.now c.args.column c.args.row (λ z. number-not_zero _ (h ∙ z))) refl
