-- `program_listing::first_line` meets its contract. Assumes nothing.
use Rattle.std.proofs.Common.{arith}
use Rattle.sheet_calls.proofs.WellFormed.{lines_there}
use Rattle.surface_places.proofs.Axes.{mesh, along}
use Rattle.program_listing.proofs.first_line.Goals as goal

pub line-requires : goal.line-requires
line-requires c = let a = c.args in (lines_there _ a.sheet.accepted, omega (arith, (along (mesh _ a.sheet.accepted) a.axis).few))
