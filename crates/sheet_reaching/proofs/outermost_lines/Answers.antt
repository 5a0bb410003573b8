-- `sheet_reaching::outermost_lines` meets its contract. Assumes nothing.
use Rattle.sheet_calls.proofs.Chains.{lookup_held}
use Rattle.sheet_calls.proofs.WellFormed.{lines_there}
use Rattle.sheet_reach.specs.Reach.{outermost}
use Rattle.sheet_reaching.proofs.outermost_lines.Goals as goal

pub around-left-requires : goal.around-left-requires
around-left-requires c = let h = lookup_held _ _ _ c.requires in (lines_there _ h.accepted, h.column)

pub around-top-requires : goal.around-top-requires
around-top-requires c = let h = lookup_held _ _ _ c.requires in (lines_there _ h.accepted, h.row)

pub returns : goal.returns
unfolding outermost
returns c = λ t. record { left = c.around-left.ensures.before t; top = c.around-top.ensures.before t; right = c.around-left.ensures.after t; bottom = c.around-top.ensures.after t }
