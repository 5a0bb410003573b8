-- The examples, computed. Assumes nothing.
use mathlib.Core.Path.{refl}
use mathlib.Core.List.{flat_map}
use Rattle.integers.specs.Floor.{floor_div}
use Rattle.integers.specs.Round.{round}
use Rattle.element_sibson.specs.Cubic.{value, by_r, by_s, bend}
use Rattle.element_sibson.specs.Element.{corner_numbers, in_order, weights, weighed, halved, transposed, flipped, mirrored, swap, negate_x, negate_y, exchanged, top_down, left_right, on_top, on_left, sibson, element}
use Rattle.element_cell.specs.Cell.{side, cell}
use Rattle.element_readings.specs.Reading.{bend_xx_of, bend_xy_of, bend_yy_of, bends_of, rounded}
use Rattle.sheet_words.specs.Word.{signed}
use Rattle.sheet_layout.specs.Format.{marked, supported, count_in, decoded, height_in, slope_in, node_in, node_at, height_at, slope_x_at, slope_y_at, some_node_out}
use Rattle.sheet_layout.specs.Some.{some}
use Rattle.sheet_calls.specs.Rules.{first_refusal}
use Rattle.sheet_calls.specs.Refusals.{other_mark, other_version, other_counts, other_length, wrong_step, wrong_line, wrong_lines, wrong_nodes, outside, sheet_rules}
use Rattle.surface_of_sheet.specs.Place.{cell_of, touches}
use Rattle.surface_of_sheet.specs.Surface.{node_numbers, nodes_of, set_of}
use Rattle.surface_bends.specs.Bends.{in_turn, if_touching, touching_in, touching_places, bends_at, bends, too_few, bends_rules, bends_refusal, counted, with_bends}
use Rattle.surface_bends.specs.Examples.{Examples}

pub examples : Examples
unfolding flat_map floor_div round value by_r by_s bend corner_numbers in_order weights weighed halved transposed flipped mirrored swap negate_x negate_y exchanged top_down left_right on_top on_left sibson element side cell bend_xx_of bend_xy_of bend_yy_of bends_of rounded signed marked supported count_in decoded height_in slope_in node_in node_at height_at slope_x_at slope_y_at some_node_out some first_refusal other_mark other_version other_counts other_length wrong_step wrong_line wrong_lines wrong_nodes outside sheet_rules cell_of touches node_numbers nodes_of set_of in_turn if_touching touching_in touching_places bends_at bends too_few bends_rules bends_refusal counted with_bends
examples = record { answers = refl; buffers = refl; eight = refl }
