-- The laws of the line. Assumes nothing.
use Prim.Native.Nat.{ℕ, ◌<◌}
use mathlib.Core.Path.{◌≡◌, refl}
use mathlib.Core.List.{List, [], ◌∷◌, ◌++◌}
use borrow.Author.Tests.{ne_eqb}
use lib.Dec.{lit<}
use lib.IntN.{pos}
use lib.ListN.{take}
use Rattle.sheet_words.specs.Word.{signed}
use Rattle.sheet_layout.specs.Format.{marked, supported, columns, rows, count_in, decoded, height_in, slope_in, node_in, node_at, some_node_out}
use Rattle.sheet_layout.specs.Some.{some}
use Rattle.sheet_layout.specs.Neighbours.{previous, next}
use Rattle.sheet_calls.specs.Rules.{first_refusal}
use Rattle.sheet_calls.specs.Refusals.{other_mark, other_version, other_counts, other_length, wrong_step, wrong_line, wrong_lines, wrong_nodes, no_node, Accepted, sheet_rules}
use Rattle.sheet_reach.specs.Reach.{outermost, too_short, reach_rules, reach_refusal, reach_answer}
use Rattle.sheet_reach.proofs.Laws.{reach_laws}
use Rattle.program_text.specs.Text.{spelled, natural, decimal, field, line, refused_line}
use Rattle.program_reach_line.specs.ReachLine.{printed, input_room}
use Rattle.program_reach_line.specs.ReachLineLaws.{ReachLineLaws}

lines : (s : List ℕ) (i j : ℕ) → Accepted s → i < columns s → j < rows s → let o = outermost s i j in
    printed (s ++ i ∷ j ∷ []) ≡ line (pos o.left ∷ pos o.top ∷ pos o.right ∷ pos o.bottom ∷ [])
unfolding printed
lines s i j accepted column row = rw (reach_laws.answered s i j accepted column row) refl

refused : (input : List ℕ) → ¬ (reach_refusal input ≡ 0) → printed input ≡ refused_line (reach_refusal input)
unfolding printed
refused input h = rw (reach_laws.refused input h, ne_eqb (reach_refusal input) 0 h) refl

taken_printed : (input : List ℕ) → printed (take input_room input) ≡ printed input
unfolding printed
taken_printed input = let more : 25620 < input_room = lit< tt in rw (reach_laws.cut input input_room more) refl

pub laws : ReachLineLaws
unfolding signed marked supported count_in decoded height_in slope_in node_in node_at some_node_out some first_refusal other_mark other_version other_counts other_length wrong_step wrong_line wrong_lines wrong_nodes no_node sheet_rules previous next outermost too_short reach_rules reach_refusal reach_answer spelled natural decimal field line refused_line printed
laws = record { lines = lines; refused = refused; read = taken_printed; middle = refl; first = refl; column = refl; nothing = refl }
