-- `sheet_sums::Addends::sum_bits` meets its contract. Assumes nothing.
use Rattle.sheet_sums.specs.Sums.{sum_at}
use Rattle.sheet_sums.proofs.Bits.{words_sum}
use Rattle.sheet_sums.proofs.Addends.sum_bits.Goals as goal

pub returns : goal.returns
unfolding sum_at
returns c =
    let s = c.args.self in
    let (v, p) = c.word.ensures in
    let (w, q) = c.word-2.ensures in
    rw (v, w) (words_sum (rw v at p) (rw w at q) (s.of_first.small _ c.requires) (s.of_second.small _ c.requires))
