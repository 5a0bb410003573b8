-- The examples, computed. Assumes nothing.
use mathlib.Core.Path.{◌≡◌, refl}
use mathlib.Core.List.{map}
use Rattle.sheet_words.specs.Word.{signed, bits_of, bytes_of}
use Rattle.sheet_layout.specs.Format.{marked, supported, count_in, decoded, slope_bytes, encoded, height_in, slope_in, node_in, node_at, height_at, some_node_out}
use Rattle.sheet_layout.specs.Some.{some}
use Rattle.sheet_layout.specs.Examples.{evenly}
use Rattle.sheet_calls.specs.Refusals.{other_mark, other_version, other_counts, other_length, wrong_step, wrong_line, wrong_lines, wrong_nodes, outside, off_mesh, empty_run, other_kind, no_node, wrong_numbers, sheet_rules, check_rules, check_refusal, lookup_rules, lookup_refusal, setting_rules, setting_refusal, reading_rules, reading_refusal, run_rules, run_refusal}
use Rattle.sheet_calls.specs.Rules.{first_refusal}
use Rattle.sheet_calls.specs.Calls.{looked_up, with_node}
use Rattle.sheet_calls.specs.Examples.{checked, Examples}

checks : map (λ e. check_refusal e.sheet) checked ≡ map (λ e. e.gives) checked
unfolding signed marked supported count_in decoded height_in slope_in node_in node_at some other_mark other_version other_counts other_length wrong_step wrong_line wrong_lines some_node_out wrong_nodes first_refusal sheet_rules check_rules check_refusal
checks = refl

pub examples : Examples
unfolding signed bits_of bytes_of evenly marked supported count_in decoded slope_bytes encoded height_in slope_in node_in node_at height_at some other_mark other_version other_counts other_length wrong_step wrong_line wrong_lines some_node_out wrong_nodes outside off_mesh empty_run other_kind no_node wrong_numbers first_refusal sheet_rules lookup_rules lookup_refusal setting_rules setting_refusal reading_rules reading_refusal run_rules run_refusal looked_up with_node
examples = record {
  many_lines = refl;
  many_counts = refl;
  many_bytes = refl;
  last_column_stays = refl;
  last_row_stays = refl;
  checks = checks;
  lower = refl;
  last_node = refl;
  column_too_far = refl;
  row_too_far = refl;
  farthest = refl;
  nothing = refl;
  no_sheet = refl;
  set_last = refl;
  too_high = refl;
  too_steep = refl;
  place_first = refl;
  untouched = refl;
  kind_three = refl;
  outside_first = refl;
  whole_row = refl;
  one_too_many = refl;
  no_pixel = refl;
  no_pixel_outside = refl;
  third_column = refl;
  third_row = refl;
  left_top = refl;
  right_bottom = refl;
  left_of = refl;
  above = refl;
  below = refl;
  far_kind = refl;
  to_the_end = refl;
  beyond = refl;
  from_outside = refl;
  very_long = refl;
}
