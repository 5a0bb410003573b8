-- What the loop of `sheet_pooling::copy_lines` keeps: the first k bytes are copied.
use Rattle.sheet_assembly.proofs.Replacing.{Replacing}
use Rattle.sheet_pooling.proofs.Copied.{byte_of}
use Rattle.sheet_pooling.proofs.copy_lines.Given as goal

abbrev pub invariant-loop-k : goal.invariant-loop-k
invariant-loop-k l = Replacing (byte_of l.first) 0 l.initial.target l.k l.target
