-- `sheet_layout::node_numbers` meets its contract. Assumes nothing.
use Rattle.std.proofs.Common.{◌∙◌, sym, [], ◌∷◌, w64}
use Rattle.integers.proofs.Operand.{unchanged}
use Rattle.sheet_layout.proofs.Decoding.{slopes_read, number_is}
use Rattle.sheet_layout.proofs.node_numbers.Goals as goal

pub returns : goal.returns
returns c =
    let a = c.args in
    let at = c.node_offset-at.ensures.0 in
    let height = unchanged w64 c.height.type_inv ∙ c.height.ensures.0 in
    let slopes = slopes_read a.sheet.now a.column a.row in
    let x-slope = unchanged w64 c.signed_word.type_inv ∙ number_is a.sheet.now a.column a.row 2 at c.signed_word.ensures.0 ∙ sym slopes.0 in
    let y-slope = unchanged w64 c.signed_word-2.type_inv ∙ number_is a.sheet.now a.column a.row 4 at c.signed_word-2.ensures.0 ∙ sym slopes.1 in
    λ t. height t ∷ x-slope t ∷ y-slope t ∷ []
