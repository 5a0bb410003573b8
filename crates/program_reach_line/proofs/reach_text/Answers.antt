-- `program_reach_line::reach_text` meets its contract. Assumes nothing.
use Rattle.std.proofs.Common.{◌≡◌, ◌≤◌, [], ◌∷◌, length, sym, ◌∙◌, ap, arith, w64, to_z, of_z}
use native.Mathlib.Nat.{zero-add}
use Rattle.integers.proofs.Operand.{unchanged}
use Rattle.sheet_words.specs.Word.{replaced}
use Rattle.program_text.specs.Text.{line, refused_line}
use Rattle.program_text.proofs.Lengths.{refused_length}
use Rattle.program_reach_line.specs.ReachLine.{printed, line_room}
use Rattle.program_reach_line.proofs.Printed.{lines_printed, lines_fit, refused_printed}
use Rattle.program_reach_line.proofs.reach_text.Goals.{After-from-in-Ok-3}
use Rattle.program_reach_line.proofs.reach_text.Goals as goal

-- ---- four positions, as they are handed on

module _ (c : After-from-in-Ok-3) where
  handed_on : line (to_z w64 (of_z w64 c.from.result) ∷ to_z w64 (of_z w64 c.from-in-Ok.result) ∷ to_z w64 (of_z w64 c.from-in-Ok-2.result) ∷ to_z w64 (of_z w64 c.from-in-Ok-3.result) ∷ [])
      ≡ printed c.args.input.now
  handed_on =
      let left = unchanged w64 c.from.type_inv ∙ c.from.ensures in
      let top = unchanged w64 c.from-in-Ok.type_inv ∙ c.from-in-Ok.ensures in
      let right = unchanged w64 c.from-in-Ok-2.type_inv ∙ c.from-in-Ok-2.ensures in
      let bottom = unchanged w64 c.from-in-Ok-3.type_inv ∙ c.from-in-Ok-3.ensures in
      (λ t. line (left t ∷ top t ∷ right t ∷ bottom t ∷ [])) ∙ sym (lines_printed c.in-Ok.lines _ c.in-Ok.ensures)

  fits : length (printed c.args.input.now) ≤ line_room
  fits = rw (lines_printed c.in-Ok.lines _ c.in-Ok.ensures) (lines_fit _ _ _ _ (omega arith) (omega arith) (omega arith) (omega arith))

pub line-requires : goal.line-requires
line-requires c =
    let d = (goal.at.line-requires c).After-from-in-Ok-3 in
    (omega arith, rw (handed_on d) (omega (arith, fits d, c.requires)))

pub returns-in-Ok-clause-count : goal.returns-in-Ok-clause-count
returns-in-Ok-clause-count c =
    c.line.ensures.end ∙ zero-add _ ∙ ap length (handed_on (goal.at.returns-in-Ok-clause-count c).After-from-in-Ok-3)

pub returns-in-Ok-clause-text : goal.returns-in-Ok-clause-text
returns-in-Ok-clause-text c = c.line.ensures.text ∙ ap (replaced c.args.out.now 0) (handed_on (goal.at.returns-in-Ok-clause-text c).After-from-in-Ok-3)

-- ---- a refusal

pub refused-requires : goal.refused-requires
refused-requires c = omega (arith, refused_length c.number.result (omega arith), c.requires)

pub returns-in-Err-clause-count : goal.returns-in-Err-clause-count
returns-in-Err-clause-count c =
    c.refused.ensures.end ∙ ap length (ap refused_line c.number.ensures ∙ sym (refused_printed _ _ c.in-Err.ensures))

pub returns-in-Err-clause-text : goal.returns-in-Err-clause-text
returns-in-Err-clause-text c =
    c.refused.ensures.text ∙ ap (replaced c.args.out.now 0) (ap refused_line c.number.ensures ∙ sym (refused_printed _ _ c.in-Err.ensures))
