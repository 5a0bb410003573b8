-- `element_nistir_6718::theorems::sources`: the set we read from is formulas 105 to 108. Assumes nothing.
use mathlib.Core.Path.{refl}
use Rattle.element_nistir_6718.proofs.Printed.{sources}
use Rattle.element_nistir_6718.proofs.theorems.sources.Goals as goal

pub returns : goal.returns
returns c = (refl, sources)
