-- The examples, computed. Assumes nothing.
use mathlib.Core.Path.{refl}
use Rattle.integers.specs.Floor.{floor_div}
use Rattle.integers.specs.Round.{round}
use Rattle.element_sibson.specs.Cubic.{value, by_r, by_s, jet}
use Rattle.element_sibson.specs.Element as element
use Rattle.element_cell.specs.Cell.{side, cell}
use Rattle.element_readings.specs.Reading.{level_of, tilt_x_of, tilt_y_of, rounded}
use Rattle.sheet_words.specs.Word.{signed}
use Rattle.sheet_layout.specs.Format.{marked, supported, count_in, decoded, height_in, slope_in, node_in, node_at, height_at, slope_x_at, slope_y_at, some_node_out}
use Rattle.sheet_calls.specs.Rules.{first_refusal}
use Rattle.sheet_layout.specs.Some.{some}
use Rattle.sheet_calls.specs.Refusals as refusals
use Rattle.surface_of_sheet.specs.Place.{cell_of, highest_along, column_at, row_at, place}
use Rattle.surface_of_sheet.specs.Surface.{node_numbers, nodes_of, set_of, level_at, tilt_x_at, tilt_y_at, level, tilt_x, tilt_y}
use Rattle.program_text.specs.Text.{spelled, natural, decimal, field, line, refused_line}
use Rattle.program_listing.specs.Listing.{sequence, pixel_line, row_text, printed}
use Rattle.program_listing.specs.Examples.{Examples}

pub examples : Examples
unfolding floor_div round value by_r by_s jet element.corner_numbers element.in_order element.weights element.weighed element.halved element.transposed element.flipped element.mirrored element.swap element.negate_x element.negate_y element.exchanged element.top_down element.left_right element.on_top element.on_left element.sibson element.element rounded level_of tilt_x_of tilt_y_of side cell signed marked supported count_in decoded height_in slope_in node_in node_at height_at slope_x_at slope_y_at some refusals.other_mark refusals.other_version refusals.other_counts refusals.other_length refusals.wrong_step refusals.wrong_line refusals.wrong_lines some_node_out refusals.wrong_nodes first_refusal refusals.sheet_rules refusals.sheet_refusal cell_of highest_along column_at row_at place node_numbers nodes_of set_of level_at tilt_x_at tilt_y_at level tilt_x tilt_y spelled natural decimal field line refused_line sequence pixel_line row_text printed
examples = record { three = refl; sheet = refl; version = refl; nothing = refl }
