-- The examples, computed. Assumes nothing.
use mathlib.Core.Path.{refl}
use Rattle.sheet_words.specs.Word.{signed, bits_of, bytes_of}
use Rattle.sheet_layout.specs.Format.{marked, supported, count_in, decoded, slope_bytes, encoded, height_in, slope_in, node_in, node_at, some_node_out}
use Rattle.sheet_layout.specs.Some.{some}
use Rattle.sheet_calls.specs.Rules.{first_refusal}
use Rattle.sheet_calls.specs.Refusals.{other_mark, other_version, other_counts, other_length, wrong_step, wrong_line, wrong_lines, wrong_nodes, wrong_numbers, sheet_rules, sheet_refusal}
use Rattle.sheet_assembly.specs.Assembled.{in_order, assembled}
use Rattle.sheet_pool.specs.Pool.{added, pooled_node, pooled, second_refused, other_along, other_lines, other_target, some_sum_out, pool_rules, pool_refusal, with_pool}
use Rattle.sheet_pool.specs.Examples.{Examples}

pub examples : Examples
unfolding signed bits_of bytes_of marked supported count_in decoded slope_bytes encoded height_in slope_in node_in node_at some_node_out some first_refusal other_mark other_version other_counts other_length wrong_step wrong_line wrong_lines wrong_nodes wrong_numbers sheet_rules sheet_refusal in_order assembled added pooled_node pooled second_refused other_along other_lines other_target some_sum_out pool_rules pool_refusal with_pool
examples = record {
  numbers = refl;
  twice = refl;
  below = refl;
  across = refl;
  carried = refl;
  nothing = refl;
  each = refl;
  left = refl;
  over = refl;
}
