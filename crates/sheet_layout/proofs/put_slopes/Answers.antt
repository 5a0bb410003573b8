-- `sheet_layout::put_slopes` meets its contract. Assumes nothing.
use Rattle.std.proofs.Common.{w32}
use Rattle.integers.proofs.Operand.{known, read_within}
use Rattle.sheet_layout.proofs.Numbers.{slope_fits, two_words}
use Rattle.sheet_layout.proofs.put_slopes.Goals as goal

pub bits_of-requires : goal.bits_of-requires
bits_of-requires c = read_within (known w32 (slope_fits _ c.requires.1) tt)

pub bits_of-requires-2 : goal.bits_of-requires-2
bits_of-requires-2 c = read_within (known w32 (slope_fits _ c.requires.2) tt)

pub returns : goal.returns
returns c =
    two_words _ _ c.ranges.x_slope c.ranges.y_slope c.requires.0
    c.bits_of.ensures.0 c.put_word.ensures c.bits_of-2.ensures.0 c.put_word-2.ensures
