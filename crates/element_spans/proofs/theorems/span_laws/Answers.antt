-- `element_spans::theorems::span_laws` meets its contract. Assumes nothing.
use Rattle.std.proofs.Common.{refl}
use Rattle.element_spans.proofs.Laws.{span_laws}
use Rattle.element_spans.proofs.theorems.span_laws.Goals as goal

pub returns : goal.returns
returns c = (refl, span_laws)
