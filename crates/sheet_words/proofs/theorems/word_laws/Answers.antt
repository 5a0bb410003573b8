-- `sheet_words::theorems::word_laws` meets its contract. Assumes nothing.
use Rattle.std.proofs.Common.{refl}
use Rattle.sheet_words.proofs.Laws.{word_laws}
use Rattle.sheet_words.proofs.theorems.word_laws.Goals as goal

pub returns : goal.returns
returns c = (refl, word_laws)
