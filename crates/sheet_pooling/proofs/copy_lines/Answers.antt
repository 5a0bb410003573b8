-- `sheet_pooling::copy_lines` meets its contract. Assumes nothing.
use Rattle.std.proofs.Common.{refl, ◌∙◌, ap, arith}
use Rattle.sheet_words.specs.Word.{replaced}
use Rattle.sheet_assembly.proofs.Replacing.{replacing_none, replacing_next, replacing_all}
use Rattle.sheet_pooling.proofs.Copied.{stored, first_bytes}
use Rattle.sheet_pooling.proofs.copy_lines.Goals as goal

pub loop-k-init : goal.loop-k-init
loop-k-init c = replacing_none

pub loop-k-preserved : goal.loop-k-preserved
loop-k-preserved c = replacing_next 1 (λ k. refl) (omega arith) c.loop-k.invariant (stored _ _ _ (omega arith))

pub returns : goal.returns
returns c = replacing_all c.loop-k.invariant (omega arith) (omega arith) ∙ ap (replaced _ 0) (first_bytes _ _ c.requires.1)
