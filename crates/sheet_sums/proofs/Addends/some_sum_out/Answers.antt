-- `sheet_sums::Addends::some_sum_out` meets its contract. Assumes nothing.
use Rattle.std.proofs.Common.{rules}
use Rattle.sheet_sums.specs.Sums.{sum_at}
use Rattle.sheet_sums.proofs.Bits.{sum_back}
use Rattle.sheet_sums.proofs.Addends.some_sum_out.Goals as goal

pub returns : goal.returns
unfolding sum_at
returns c =
    let s = c.args.self in
    c.some.ensures _ (λ k b below post.
    let back = sum_back (s.of_first.small k below) (s.of_second.small k below) in search rules)
