-- `surface_pixels::LocatedCubic::of` meets its contract. Assumes nothing.
use Rattle.surface_pixels.proofs.Cubics.{found_cell, numbers_in, located_is}
use Rattle.surface_pixels.proofs.LocatedCubic.of.Goals as goal

pub corner_numbers-n-requires : goal.corner_numbers-n-requires
corner_numbers-n-requires c = (found_cell _ _ _ c.place-place.ensures c.args.spot.sheet.accepted, c.pixel.invariant.width, c.pixel.invariant.height)

pub coefficients-requires : goal.coefficients-requires
coefficients-requires c = numbers_in _ _ _ c.place-place.ensures c.pixel.view_is c.corner_numbers-n.ensures c.args.spot.sheet.accepted

pub returns : goal.returns
returns c = located_is _ _ _ c.place-place.ensures c.pixel.view_is c.corner_numbers-n.ensures c.coefficients.ensures
