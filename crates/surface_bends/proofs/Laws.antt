-- The laws of the pieces that touch a pixel, and of the list of their bends. Assumes nothing.
use mathlib.Core.Path.{refl}
use native.Mathlib.Omega.{arith}
use native.Mathlib.Nat.{add-zero}
use Rattle.element_readings.specs.Reading.{bends_of}
use Rattle.surface_of_sheet.specs.Surface.{bend_xx_at, bend_xy_at, bend_yy_at}
use Rattle.surface_bends.specs.Bends.{bends_at, tally}
use Rattle.surface_bends.specs.BendLaws.{TouchingLaws, BendLaws}
use Rattle.surface_bends.proofs.Listing.{every, only, ordered, once}
use Rattle.surface_bends.proofs.Counting.{most, least}
use Rattle.surface_bends.proofs.Alone.{alone}
use Rattle.surface_bends.proofs.Numbers.{size, few, number_at}
use Rattle.surface_bends.proofs.Chain.{numbers, fourteen, taken}
use Rattle.surface_bends.proofs.Call.{pieces, refused, same_length, untouched, front, behind}

pub touching_laws : TouchingLaws
touching_laws = record { every = every; only = only; ordered = ordered; once = once; most = most; least = least; alone = alone }

pub bend_laws : BendLaws
unfolding bends_at bends_of bend_xx_at bend_xy_at bend_yy_at tally
bend_laws = record {
  size = size;
  few = few;
  xx = λ s x y k h. number_at s x y k 0 _ h (omega arith) (add-zero _);
  xy = λ s x y k h. number_at s x y k 1 _ h (omega arith) (omega arith);
  yy = λ s x y k h. number_at s x y k 2 _ h (omega arith) (omega arith);
  numbers = numbers;
  fourteen = fourteen;
  taken = taken;
  of_pieces = λ k. refl;
  of_refused = λ n. refl;
  pieces = pieces;
  refused = refused;
  buffer = same_length;
  untouched = untouched;
  front = front;
  behind = behind;
}
