-- What of the row is written when the loop comes to a pixel. Assumes nothing.
use Rattle.program_listing.proofs.Begun.{Begun}
use Rattle.program_listing.proofs.row_text.Given as goal

abbrev pub invariant-loop-x : goal.invariant-loop-x
invariant-loop-x l = Begun l.sheet.bytes.now l.y l.initial.out l.x l.out l.end
