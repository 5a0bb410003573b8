-- The turned cubics are the cubics at the turned points. Assumes nothing.
use mathlib.Core.List.{[]}
use Rattle.element_sibson.specs.Fraction.{◌≈◌, complement}
use Rattle.element_sibson.specs.Cubic.{Point, Cubic, value}
use Rattle.element_sibson.specs.Element.{transposed, flipped, mirrored, exchanged, top_down, left_right, on_top, on_left, sibson}
use Rattle.element_sibson.specs.Sense.{Turnings}
use Rattle.element_sibson.proofs.Fractions.{≈_trans}
use Rattle.element_sibson.proofs.Quote.{complementₑ, valueₑ, transposedₑ, flippedₑ, equal, anyₑ, rₑ, sₑ, any}

pub transposing : (f : Cubic) (P : Point) → value (transposed f) P ≈ value f (record { r = P.s; s = P.r })
unfolding value transposed
transposing f P = record { crossed = equal (valueₑ (transposedₑ anyₑ) rₑ sₑ) (valueₑ anyₑ sₑ rₑ) tt (any f P []) }

pub flipping : (f : Cubic) (P : Point) → value (flipped f) P ≈ value f (record { r = P.r; s = complement P.s })
unfolding value flipped
flipping f P = record { crossed = equal (valueₑ (flippedₑ anyₑ) rₑ sₑ) (valueₑ anyₑ rₑ (complementₑ sₑ)) tt (any f P []) }

mirroring : (f : Cubic) (P : Point) → value (mirrored f) P ≈ value f (record { r = complement P.r; s = P.s })
unfolding mirrored
mirroring f P =
    ≈_trans {y = value (flipped (transposed f)) (record { r = P.s; s = P.r })} (transposing (flipped (transposed f)) P)
    (≈_trans {y = value (transposed f) (record { r = P.s; s = complement P.r })} (flipping (transposed f) (record { r = P.s; s = P.r }))
    (transposing f (record { r = P.s; s = complement P.r })))

pub turnings : Turnings
unfolding sibson on_left
turnings = record {
  transposing = transposing;
  flipping = flipping;
  mirroring = mirroring;
  left_of_top = λ n P. transposing (on_top (exchanged n)) P;
  bottom_of_top = λ n P. flipping (on_top (top_down n)) P;
  right_of_left = λ n P. mirroring (on_left (left_right n)) P;
}
