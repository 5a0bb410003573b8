-- `sheet_sums::Addends::put_sums` meets its contract. Assumes nothing.
use Rattle.std.proofs.Common.{◌≡◌, ℕ, List, length, refl, ◌∙◌, arith}
use Rattle.sheet_words.specs.Word.{bytes_of}
use Rattle.sheet_assembly.proofs.Replacing.{replacing_none, replacing_next}
use Rattle.sheet_sums.specs.Sums.{sum_bytes}
use Rattle.sheet_sums.proofs.Addends.put_sums.Goals as goal

two_each : (a b : List ℕ) (start k : ℕ) → length (sum_bytes a b start k) ≡ 2
unfolding sum_bytes bytes_of
two_each a b start k = refl

pub loop-k-init : goal.loop-k-init
loop-k-init c = replacing_none

pub loop-k-preserved : goal.loop-k-preserved
unfolding sum_bytes
loop-k-preserved c = replacing_next 2 (two_each _ _ _) (omega arith) c.loop-k.invariant (c.put_word.ensures ∙ rw c.sum_bits.ensures.0 refl)
