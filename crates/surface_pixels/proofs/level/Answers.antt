-- `surface_pixels::level` meets its contract. Assumes nothing.
use Rattle.std.proofs.Common.{◌∙◌, w64}
use Rattle.integers.proofs.Operand.{unchanged}
use Rattle.surface_pixels.proofs.Cubics.{readings_are}
use Rattle.surface_pixels.proofs.level.Goals as goal

pub returns : goal.returns
returns c = let r = readings_are _ _ _ c.of-cubic.ensures in unchanged w64 c.level_of.type_inv ∙ c.level_of.ensures ∙ r.level
