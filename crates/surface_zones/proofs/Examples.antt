-- The examples, computed. Assumes nothing.
use mathlib.Core.Path.{refl}
use Rattle.integers.specs.Floor.{floor_div}
use Rattle.integers.specs.Round.{round}
use Rattle.element_sibson.specs.Cubic.{value, jet}
use Rattle.element_sibson.specs.Element.{corner_numbers, in_order, weights, weighed, halved, transposed, flipped, mirrored, swap, negate_x, negate_y, exchanged, top_down, left_right, on_top, on_left, sibson, element}
use Rattle.element_cell.specs.Cell.{side, cell}
use Rattle.element_readings.specs.Reading.{level_of, rounded}
use Rattle.sheet_words.specs.Word.{signed}
use Rattle.sheet_layout.specs.Format.{marked, supported, count_in, decoded, height_in, slope_in, node_in, node_at, height_at, slope_x_at, slope_y_at, some_node_out}
use Rattle.sheet_layout.specs.Some.{some}
use Rattle.sheet_calls.specs.Rules.{first_refusal}
use Rattle.sheet_calls.specs.Refusals.{other_mark, other_version, other_counts, other_length, wrong_step, wrong_line, wrong_lines, wrong_nodes, outside, off_mesh, empty_run, sheet_rules}
use Rattle.sheet_zones.specs.Zones.{zone_in, zones_from, zones_of, crosses, holds, holding, raised, lowered, limited, other_zones_length, limit_in, wrong_zone, wrong_zones, zone_rules}
use Rattle.surface_of_sheet.specs.Place.{cell_of, highest_along, column_at, row_at, place}
use Rattle.surface_of_sheet.specs.Surface.{node_numbers, nodes_of, set_of, level_at, level}
use Rattle.surface_zones.specs.Zoned.{zoned_level, zoned_along, zoned_rules, zoned_refusal, zoned_answer, zoned_run_rules, zoned_run_refusal, zoned_filled}
use Rattle.surface_zones.specs.Examples.{Examples}

pub examples : Examples
unfolding floor_div round value jet corner_numbers in_order weights weighed halved transposed flipped mirrored swap negate_x negate_y exchanged top_down left_right on_top on_left sibson element side cell level_of rounded signed marked supported count_in decoded height_in slope_in node_in node_at height_at slope_x_at slope_y_at some_node_out some first_refusal other_mark other_version other_counts other_length wrong_step wrong_line wrong_lines wrong_nodes outside off_mesh empty_run sheet_rules zone_in zones_from zones_of crosses holds holding raised lowered limited other_zones_length limit_in wrong_zone wrong_zones zone_rules cell_of highest_along column_at row_at place node_numbers nodes_of set_of level_at level zoned_level zoned_along zoned_rules zoned_refusal zoned_answer zoned_run_rules zoned_run_refusal zoned_filled
examples = record {
  plain = refl;
  lamp = refl;
  subtitle = refl;
  lamp_first = refl;
  lamp_last = refl;
  inside = refl;
  levels = refl;
  order = refl;
  order_at = refl;
  kept = refl;
}
