-- `sheet_layout::put_node` meets its contract. Assumes nothing.
use Rattle.std.proofs.Common.{rules, w32}
use Rattle.integers.proofs.Operand.{known, read_within}
use Rattle.sheet_layout.proofs.Numbers.{fit, kept, back, slopes_back, node_bytes_lem}
use Rattle.sheet_layout.proofs.put_node.Goals as goal

pub bits_of-requires : goal.bits_of-requires
bits_of-requires c = read_within (known w32 (fit _ _ _ c.requires.y_slope_value).0 tt)

pub put_slopes-requires : goal.put_slopes-requires
put_slopes-requires c =
    let (_, x, y) = kept _ _ _ c.requires.y_slope_value in
    let slopes = slopes_back x y _ c.requires.y_slope_value in
    (search rules, slopes.0, slopes.1)

pub returns : goal.returns
returns c =
    let (h, x, y) = kept _ _ _ c.requires.y_slope_value in
    node_bytes_lem (back h x y) _ _ c.requires.node_size_in_bounds c.bits_of.ensures.0 c.put_word.ensures c.put_slopes.ensures
