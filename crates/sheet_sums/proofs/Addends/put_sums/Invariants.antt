-- What the loop of `sheet_sums::Addends::put_sums` keeps. Assumes nothing.
use Rattle.sheet_assembly.proofs.Replacing.{Replacing}
use Rattle.sheet_sums.specs.Sums.{sum_bytes}
use Rattle.sheet_sums.proofs.Addends.put_sums.Given as goal

abbrev pub invariant-loop-k : goal.invariant-loop-k
invariant-loop-k l = Replacing (sum_bytes l.self.first.now l.self.second.now l.self.start) l.self.start l.fn.target l.k l.target
