-- The laws of sums. Assumes nothing.
use Rattle.element_sums.specs.Sums.{SumLaws}
use Rattle.element_sums.proofs.Pieces.{pieces, elements}
use Rattle.element_sums.proofs.Cubics.{values, jets, bends_xx_lem, bends_xy_lem, bends_yy_lem}
use Rattle.element_sums.proofs.Rounded.{two_rounded_lem, three_rounded_lem}

pub sum_laws : SumLaws
sum_laws = record {
  pieces = pieces;
  elements = elements;
  values = values;
  jets = jets;
  bends_xx = bends_xx_lem;
  bends_xy = bends_xy_lem;
  bends_yy = bends_yy_lem;
  two_rounded = two_rounded_lem;
  three_rounded = three_rounded_lem;
}
