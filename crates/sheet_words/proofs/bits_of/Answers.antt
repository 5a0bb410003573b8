-- `sheet_words::bits_of` meets its contract. Assumes nothing.
use Rattle.std.proofs.Common.{◌∙◌, ap, of_z, w16, w32}
use Rattle.integers.proofs.Operand.{known, gives}
use Rattle.sheet_words.proofs.Signs.{bits_small, writes_bits}
use Rattle.sheet_words.proofs.bits_of.Goals as goal

-- 16 bits hold the number
pub returns : goal.returns
returns c =
    let e = c.from.ensures ∙ c.cast_unsigned.ensures ∙ ap (of_z w16) (gives w16 (known w32 c.requires tt) tt) ∙ writes_bits _ in
    (e, rw e (bits_small c.requires))
