-- The examples, computed. Assumes nothing.
use Prim.Native.Nat.{ℕ}
use mathlib.Core.Path.{◌≡◌, refl, subst}
use mathlib.Core.List.{List}
use lib.Dec.{T, eqb}
use lib.IntN.{nat_abs}
use lib.Ieee as ieee
use Rattle.integers.specs.Floor.{floor_div}
use Rattle.integers.specs.Round.{round}
use Rattle.integers.specs.Stepwise.{step, steps}
use Rattle.element_sibson.specs.Cubic.{value, by_r, by_s, jet, bend}
use Rattle.element_sibson.specs.Piece.{left}
use Rattle.element_sibson.specs.Element.{corner_numbers, in_order, weights, weighed, halved, transposed, flipped, mirrored, swap, negate_x, negate_y, exchanged, top_down, left_right, on_top, on_left, sibson, element}
use Rattle.element_cell.specs.Cell.{side, cell}
use Rattle.element_readings.specs.Reading.{level_of, tilt_x_of, tilt_y_of, bend_xx_of, bend_xy_of, bend_yy_of, rounded}
use Rattle.sheet_words.specs.Word.{signed}
use Rattle.sheet_layout.specs.Format.{marked, supported, count_in, decoded, height_in, slope_in, node_in, node_at, height_at, slope_x_at, slope_y_at, some_node_out}
use Rattle.sheet_calls.specs.Rules.{first_refusal}
use Rattle.sheet_layout.specs.Some.{some}
use Rattle.sheet_calls.specs.Refusals as refusals
use Rattle.sheet_calls.specs.Refusals.{Accepted}
use Rattle.surface_answers.specs.Answers.{answered, refused, quotient}
use Rattle.surface_of_sheet.specs.Place.{cell_of, Place, highest_along, column_at, row_at, place, seen, touches}
use Rattle.surface_of_sheet.specs.Surface.{node_numbers, nodes_of, set_of, level_at, tilt_x_at, tilt_y_at, bend_xx_at, bend_xy_at, bend_yy_at, level, tilt_x, tilt_y, bend_xx, bend_xy, bend_yy}
use Rattle.surface_of_sheet.specs.Read.{numbers, read}
use Rattle.surface_of_sheet.specs.Run.{levels_along, slot_level, begun, filled}
use Rattle.surface_of_sheet.specs.Steep.{steep}
use Rattle.surface_of_sheet.specs.Examples.{Examples}

pub examples : Examples
unfolding floor_div round value by_r by_s jet bend corner_numbers in_order weights weighed halved transposed flipped mirrored swap negate_x negate_y exchanged top_down left_right on_top on_left sibson element rounded level_of tilt_x_of tilt_y_of bend_xx_of bend_xy_of bend_yy_of side cell signed marked supported count_in decoded height_in slope_in node_in node_at height_at slope_x_at slope_y_at some refusals.other_mark refusals.other_version refusals.other_counts refusals.other_length refusals.wrong_step refusals.wrong_line refusals.wrong_lines some_node_out refusals.wrong_nodes refusals.outside refusals.off_mesh refusals.empty_run refusals.other_kind first_refusal refusals.sheet_rules refusals.reading_rules refusals.reading_refusal refusals.run_rules refusals.run_refusal ieee.span ieee.climb ieee.size ieee.odd ieee.units ieee.round ieee.div ieee.of_int quotient answered refused cell_of highest_along column_at row_at place touches node_numbers nodes_of set_of level_at tilt_x_at tilt_y_at bend_xx_at bend_xy_at bend_yy_at level tilt_x tilt_y bend_xx bend_xy bend_yy numbers read levels_along step steps slot_level begun filled
examples = record {
  starred_read = refl;
  further_read = refl;
  runs_fill = (refl, refl);
  one_done = refl;
  two_done = refl;
  first_step = refl;
  second_step = refl;
  two_steps = refl;
  level = refl;
  tilt = refl;
  bend = refl;
  refused = refl;
  on_diagonal = tt;
  diagonal_bend = refl;
  on_vertical = tt;
  vertical_level = refl;
  vertical_bend = refl;
  on_horizontal = tt;
  horizontal_level = refl;
  horizontal_bend = refl;
}

-- on a diagonal the bend is not the same from both pieces
pub bends : ¬ ((s : List ℕ) (p : Place) (x y : ℕ) → Accepted s → T (touches s p x y) → bend_xx_at s p ≡ bend_xx s x y)
unfolding floor_div round value by_r by_s bend corner_numbers in_order weights weighed halved transposed swap exchanged on_top on_left sibson element rounded bend_xx_of side cell signed marked supported count_in decoded height_in slope_in node_in node_at height_at slope_x_at slope_y_at some refusals.other_mark refusals.other_version refusals.other_counts refusals.other_length refusals.wrong_step refusals.wrong_line refusals.wrong_lines some_node_out refusals.wrong_nodes cell_of highest_along column_at row_at place node_numbers nodes_of set_of bend_xx_at bend_xx
bends same =
    let accepted : Accepted (steep 4 64 0) = record { one = refl; two = refl; three = refl; four = refl; five = refl; six = refl } in
    subst (λ z. T (eqb (nat_abs z) 1792)) (same (steep 4 64 0) (seen (steep 4 64 0) 0 0 left 1 1) 1 1 accepted examples.on_diagonal) tt
