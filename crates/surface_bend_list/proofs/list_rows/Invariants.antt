-- What the loop of `surface_bend_list::list_rows` keeps: the bends from the rows of cells above are stored. Assumes nothing.
use Rattle.element_bends.proofs.Stores.{Stored}
use Rattle.surface_bends.specs.Bends.{in_turn}
use Rattle.surface_bend_list.specs.Rows.{bends_in_row}
use Rattle.surface_bend_list.proofs.list_rows.Given as goal

abbrev pub invariant-loop-row : goal.invariant-loop-row
invariant-loop-row l = Stored l.initial.list 0 (in_turn l.row (bends_in_row l.spot.sheet.bytes.now l.spot.x l.spot.y)) l.list l.at
