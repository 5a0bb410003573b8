-- The examples, computed. Assumes nothing.
use mathlib.Core.Path.{refl}
use Rattle.integers.specs.Floor.{floor_div}
use Rattle.integers.specs.Round.{round}
use Rattle.element_sibson.specs.Cubic.{value, by_r, by_s, jet}
use Rattle.element_sibson.specs.Element.{corner_numbers, in_order, weights, weighed, halved, on_top, sibson, element}
use Rattle.element_cell.specs.Cell.{side, cell}
use Rattle.element_readings.specs.Reading.{level_of, rounded}
use Rattle.sheet_words.specs.Word.{signed, bits_of, bytes_of}
use Rattle.sheet_layout.specs.Format.{marked, supported, count_in, decoded, slope_bytes, encoded, height_in, slope_in, node_in, node_at, height_at, slope_x_at, slope_y_at, some_node_out}
use Rattle.sheet_layout.specs.Some.{some}
use Rattle.sheet_calls.specs.Rules.{first_refusal}
use Rattle.sheet_calls.specs.Refusals as refusals
use Rattle.sheet_assembly.specs.Assembled as assembly
use Rattle.sheet_pool.specs.Pool.{added, pooled_node, pooled, second_refused, other_along, other_lines, other_target, some_sum_out, pool_rules, pool_refusal}
use Rattle.surface_of_sheet.specs.Place.{cell_of, highest_along, column_at, row_at, place}
use Rattle.surface_of_sheet.specs.Surface.{node_numbers, nodes_of, set_of, level_at, level}
use Rattle.surface_pool.specs.Examples.{Examples}

pub examples : Examples
unfolding floor_div round value by_r by_s jet corner_numbers in_order weights weighed halved on_top sibson element side cell rounded level_of signed bits_of bytes_of marked supported count_in decoded slope_bytes encoded height_in slope_in node_in node_at height_at slope_x_at slope_y_at some_node_out some first_refusal refusals.other_mark refusals.other_version refusals.other_counts refusals.other_length refusals.wrong_step refusals.wrong_line refusals.wrong_lines refusals.wrong_nodes refusals.wrong_numbers refusals.outside refusals.off_mesh refusals.empty_run refusals.sheet_rules refusals.sheet_refusal refusals.run_rules refusals.run_refusal assembly.in_order assembly.assembled added pooled_node pooled second_refused other_along other_lines other_target some_sum_out pool_rules pool_refusal cell_of highest_along column_at row_at place node_numbers nodes_of set_of level_at level
examples = record { half = refl; twice = refl; one = refl; thrice = refl; two = refl; pools = (refl, refl); runs = (refl, refl, refl) }
