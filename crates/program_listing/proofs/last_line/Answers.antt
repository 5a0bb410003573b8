-- `program_listing::last_line` meets its contract. Assumes nothing.
use Rattle.std.proofs.Common.{arith}
use Rattle.sheet_calls.proofs.WellFormed.{header_there, lines_there}
use Rattle.surface_places.proofs.Axes.{mesh, along}
use Rattle.program_listing.proofs.last_line.Goals as goal

pub lines-requires : goal.lines-requires
lines-requires c = header_there _ c.args.sheet.accepted

pub overflow_sub-lines : goal.overflow_sub-lines
overflow_sub-lines c = let a = c.args in omega (arith, c.lines.ensures.0, (along (mesh _ a.sheet.accepted) a.axis).few)

pub line-requires : goal.line-requires
line-requires c = let a = c.args in (lines_there _ a.sheet.accepted, omega (arith, c.lines.ensures.0, (along (mesh _ a.sheet.accepted) a.axis).few))
