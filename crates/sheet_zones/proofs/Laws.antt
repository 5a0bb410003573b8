-- The laws of zones, put together. Assumes nothing.
use Rattle.sheet_zones.specs.ZoneLaws.{ListLaws, LimitLaws}
use Rattle.sheet_zones.proofs.Limits.{below, not_below_lem, above, not_above_lem}
use Rattle.sheet_zones.proofs.Between as between
use Rattle.sheet_zones.proofs.Between.{first, one, last, bounded}
use Rattle.sheet_zones.proofs.Clamps.{clamp}
use Rattle.sheet_zones.proofs.Lists.{numbers, many, each}
use Rattle.sheet_zones.proofs.Holding as holding
use Rattle.sheet_zones.proofs.Holding.{pixels, taken, passed}
use Rattle.sheet_zones.proofs.Conditions.{eighteen, nineteen, order, unrefused}

pub list_laws : ListLaws
list_laws = record {
  eighteen = eighteen;
  nineteen = nineteen;
  order = order;
  unrefused = unrefused;
  numbers = numbers;
  many = many;
  each = each;
  pixels = pixels;
  none = holding.none;
  taken = taken;
  passed = passed;
}

pub limit_laws : LimitLaws
limit_laws = record {
  below = below;
  not_below = not_below_lem;
  above = above;
  not_above = not_above_lem;
  none = between.none;
  first = first;
  one = one;
  last = last;
  bounded = bounded;
  clamp = clamp;
}
