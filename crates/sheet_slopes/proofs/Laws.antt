-- The laws of slopes that are filled from heights. Assumes nothing.
use Rattle.sheet_slopes.specs.SlopeLaws.{SlopeLaws}
use Rattle.sheet_slopes.proofs.Conditions.{numbers, twelve, thirteen}
use Rattle.sheet_slopes.proofs.Quotients.{steps_x_lem, steps_y_lem, flat, flat_x_lem, flat_y_lem, even}
use Rattle.sheet_slopes.proofs.Chain.{refused_is}
use Rattle.sheet_slopes.proofs.Filled.{filled, in_place_is, old_slopes_lem, again, twice}
use Rattle.sheet_slopes.proofs.Beside.{beside}

pub slope_laws : SlopeLaws
slope_laws = record {
  numbers = numbers;
  twelve = twelve;
  thirteen = thirteen;
  steps_x = steps_x_lem;
  steps_y = steps_y_lem;
  filled = filled;
  refused = refused_is;
  beside = beside;
  in_place = in_place_is;
  old_slopes = old_slopes_lem;
  again = again;
  twice = twice;
  flat = flat;
  flat_x = flat_x_lem;
  flat_y = flat_y_lem;
  even = even;
}
