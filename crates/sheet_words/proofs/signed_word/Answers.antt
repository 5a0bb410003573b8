-- `sheet_words::signed_word` meets its contract. Assumes nothing.
use Rattle.std.proofs.Common.{◌∙◌, w16, w64}
use Rattle.integers.proofs.Operand.{any, unchanged}
use Rattle.sheet_words.proofs.Signs.{reads_signed}
use Rattle.sheet_words.proofs.signed_word.Goals as goal

-- what is read is handed on as it is
pub returns : goal.returns
returns c =
    let e = unchanged w64 c.from.type_inv ∙ c.from.ensures ∙ unchanged w16 c.from_le_bytes.type_inv in
    (e ∙ c.from_le_bytes.ensures ∙ reads_signed _, rw e (any w16 (record { sfits = c.from_le_bytes.type_inv })).bounded)
