-- `sheet_sums::Addends::of` meets its contract. Assumes nothing.
use Rattle.sheet_calls.proofs.WellFormed.{header_there}
use Rattle.sheet_sums.proofs.Numbers.{both_ranged}
use Rattle.sheet_sums.proofs.Addends.of.Goals as goal

pub nodes_offset-requires : goal.nodes_offset-requires
nodes_offset-requires c = header_there _ c.requires.first_accepted

pub node_count-requires : goal.node_count-requires
node_count-requires c = header_there _ c.requires.first_accepted

pub invariant_of-result : goal.invariant_of-result
invariant_of-result c =
    let (a, b) = both_ranged c.requires c.nodes_offset.ensures.0 c.node_count.ensures.0 in
    record { of_first = a; of_second = b }
