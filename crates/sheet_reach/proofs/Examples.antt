-- The examples, computed. Assumes nothing.
use mathlib.Core.Path.{refl}
use Rattle.sheet_words.specs.Word.{signed}
use Rattle.sheet_layout.specs.Format.{marked, supported, count_in, decoded, height_in, slope_in, node_in, node_at, some_node_out}
use Rattle.sheet_layout.specs.Some.{some}
use Rattle.sheet_layout.specs.Neighbours.{previous, next}
use Rattle.sheet_calls.specs.Rules.{first_refusal}
use Rattle.sheet_calls.specs.Refusals.{other_mark, other_version, other_counts, other_length, wrong_step, wrong_line, wrong_lines, wrong_nodes, no_node, sheet_rules}
use Rattle.sheet_reach.specs.Reach.{outermost, too_short, reach_rules, reach_refusal, reach_answer}
use Rattle.sheet_reach.specs.Examples.{Examples}

pub examples : Examples
unfolding signed marked supported count_in decoded height_in slope_in node_in node_at some_node_out some first_refusal other_mark other_version other_counts other_length wrong_step wrong_line wrong_lines wrong_nodes no_node sheet_rules previous next outermost too_short reach_rules reach_refusal reach_answer
examples = record { middle = refl; left_below = refl; right_above = refl; answered = refl }
