-- `program_text::line`: the fields of the numbers before the index are written. Assumes nothing.
use Rattle.program_text.proofs.Fields.{fields}
use Rattle.program_text.proofs.Written.{Written}
use Rattle.program_text.proofs.line.Given as goal

abbrev pub invariant-loop-z : goal.invariant-loop-z
invariant-loop-z l = Written l.initial.out l.at (fields l.numbers l.z-index) l.out l.end
