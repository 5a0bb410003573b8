-- `surface_pixels::level_and_tilt` meets its contract. Assumes nothing.
use Rattle.std.proofs.Common.{[], ◌∷◌, ◌∙◌, w64}
use Rattle.integers.proofs.Operand.{unchanged}
use Rattle.surface_pixels.proofs.Cubics.{readings_are}
use Rattle.surface_pixels.proofs.level_and_tilt.Goals as goal

pub returns : goal.returns
returns c =
    let r = readings_are _ _ _ c.of-cubic.ensures in
    let level = unchanged w64 c.level_of.type_inv ∙ c.level_of.ensures ∙ r.level in
    let tilt_x = unchanged w64 c.tilt_x_of.type_inv ∙ c.tilt_x_of.ensures ∙ r.tilt_x in
    let tilt_y = unchanged w64 c.tilt_y_of.type_inv ∙ c.tilt_y_of.ensures ∙ r.tilt_y in
    λ t. level t ∷ tilt_x t ∷ tilt_y t ∷ []
