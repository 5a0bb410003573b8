-- `program_reach_line::theorems::reach_line_laws`: the laws hold. Assumes nothing.
use Rattle.std.proofs.Common.{refl}
use Rattle.program_reach_line.proofs.Laws.{laws}
use Rattle.program_reach_line.proofs.theorems.reach_line_laws.Goals as goal

pub returns : goal.returns
returns c = (refl, laws)
