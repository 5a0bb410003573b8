-- `surface_pixels::answer` meets its contract. Assumes nothing.
use Rattle.surface_of_sheet.specs.Read.{numbers}
use Rattle.surface_of_sheet.proofs.Sizes.{small_level, small_tilts, small_bends}
use Rattle.surface_pixels.proofs.Cubics.{readings_are}
use Rattle.surface_pixels.proofs.answer.Goals as goal

pub level_answer-requires : goal.level_answer-requires
level_answer-requires c = let r = readings_are _ _ _ c.of-cubic.ensures in rw r.level (small_level _ _ _ c.args.spot.sheet.accepted c.args.spot.inside)

pub tilt_answer-requires : goal.tilt_answer-requires
tilt_answer-requires c = let r = readings_are _ _ _ c.of-cubic.ensures in rw (r.tilt_x, r.tilt_y) (small_tilts _ _ _ c.args.spot.sheet.accepted c.args.spot.inside)

pub bend_answer-requires : goal.bend_answer-requires
bend_answer-requires c = let r = readings_are _ _ _ c.of-cubic.ensures in rw (r.bend_xx, r.bend_xy, r.bend_yy) (small_bends _ _ _ c.args.spot.sheet.accepted c.args.spot.inside)

pub returns-in-Level : goal.returns-in-Level
unfolding numbers
returns-in-Level c = let r = readings_are _ _ _ c.of-cubic.ensures in rw (c.in-Level.is, ← r.level) c.level_answer.ensures

pub returns-in-Tilt : goal.returns-in-Tilt
unfolding numbers
returns-in-Tilt c = let r = readings_are _ _ _ c.of-cubic.ensures in rw (c.in-Tilt.is, ← r.tilt_x, ← r.tilt_y) c.tilt_answer.ensures

pub returns-in-Bend : goal.returns-in-Bend
unfolding numbers
returns-in-Bend c = let r = readings_are _ _ _ c.of-cubic.ensures in rw (c.in-Bend.is, ← r.bend_xx, ← r.bend_xy, ← r.bend_yy) c.bend_answer.ensures
