-- What the loop of `surface_bend_list::list_row` keeps: the bends from the cells to the left are stored. Assumes nothing.
use Rattle.element_bends.proofs.Stores.{Stored}
use Rattle.surface_bends.specs.Bends.{in_turn}
use Rattle.surface_bend_list.specs.Rows.{bends_in}
use Rattle.surface_bend_list.proofs.list_row.Given as goal

abbrev pub invariant-loop-column : goal.invariant-loop-column
invariant-loop-column l = Stored l.initial.list l.at (in_turn l.column (bends_in l.spot.sheet.bytes.now l.spot.x l.spot.y l.row)) l.list l.end
