-- `sheet_words::put_word` meets its contract. Assumes nothing.
use Rattle.std.proofs.Common.{◌∙◌, arith}
use Rattle.sheet_words.proofs.Bytes.{two_bytes}
use Rattle.sheet_words.proofs.Replaced.{put_replaced}
use Rattle.sheet_words.specs.Word.{bytes_of}
use Rattle.sheet_words.proofs.put_word.Goals as goal

pub returns : goal.returns
unfolding bytes_of
returns c =
    put_replaced _ _ _ (c.copy_from_slice.ensures.after ∙ c.to_le_bytes.ensures ∙ two_bytes _ c.requires.1) (omega arith)
