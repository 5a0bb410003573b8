-- The examples, computed. Assumes nothing.
use mathlib.Core.Path.{refl}
use Rattle.integers.specs.Floor.{floor_div}
use Rattle.integers.specs.Round.{round}
use Rattle.sheet_words.specs.Word.{signed, bits_of, bytes_of}
use Rattle.sheet_layout.specs.Format.{marked, supported, count_in, decoded, slope_bytes, height_in, slope_in, node_in, node_at, some_node_out, height_at, slope_x_at, slope_y_at}
use Rattle.sheet_layout.specs.Some.{some}
use Rattle.sheet_layout.specs.Neighbours.{previous, next}
use Rattle.sheet_calls.specs.Rules.{first_refusal}
use Rattle.sheet_calls.specs.Refusals.{other_mark, other_version, other_counts, other_length, wrong_step, wrong_line, wrong_lines, wrong_nodes, sheet_rules}
use Rattle.sheet_assembly.specs.Assembled.{in_order, assembled}
use Rattle.sheet_slopes.specs.Slopes.{rise, distance, slope_along, filled_x, filled_y, filled_bytes, too_stiff, too_steep, some_too_steep, slope_rules, slope_refusal, with_slopes}
use Rattle.sheet_slopes.specs.Examples.{Examples}

pub examples : Examples
unfolding floor_div round signed bits_of bytes_of marked supported count_in decoded slope_bytes height_in slope_in node_in node_at some_node_out height_at slope_x_at slope_y_at some first_refusal other_mark other_version other_counts other_length wrong_step wrong_line wrong_lines wrong_nodes sheet_rules in_order assembled previous next rise distance slope_along filled_x filled_y filled_bytes too_stiff too_steep some_too_steep slope_rules slope_refusal with_slopes
examples = record {
  first_node = refl;
  inner_node = refl;
  last_node = refl;
  negative_tie = refl;
  top = refl;
  bottom = refl;
  level = refl;
  stiff_first = refl;
  stiff_inner = refl;
  stiff_last = refl;
  filled = refl;
  old_gone = refl;
  old_gone_too = refl;
  steepest = refl;
  steepest_down = refl;
  too_steep_up = refl;
  too_steep_down = refl;
  stiffness_first = refl;
  stiffest = refl;
  far_too_stiff = refl;
  rounded_first = refl;
  rounded_out = refl;
  untouched = refl;
  old_slope = refl;
}
