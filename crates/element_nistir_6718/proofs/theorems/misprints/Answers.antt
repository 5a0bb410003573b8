-- `element_nistir_6718::theorems::misprints`: each misprint breaks the conditions of section 2. Assumes nothing.
use mathlib.Core.Path.{refl}
use Rattle.element_nistir_6718.proofs.Misprinted.{misprints}
use Rattle.element_nistir_6718.proofs.theorems.misprints.Goals as goal

pub returns : goal.returns
returns c = (refl, misprints)
