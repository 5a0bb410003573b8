-- Doubled coefficients: a transposed list has the size of the list, and a piece's have a known size. Assumes nothing.
use mathlib.Core.Path.{◌≡◌, subst⁻¹}
use mathlib.Core.List.{List}
use native.Mathlib.Omega.{arith}
use lib.IntN.{ℤ}
use Rattle.element_sibson.specs.Piece.{Piece}
use Rattle.element_sibson.specs.Element.{CornerNumbers, transposed, sibson}
use Rattle.element_cell.specs.Corners.{largest, AllWithin}
use Rattle.element_cell.specs.Coefficients.{listed, size, halves, Sized}
use Rattle.element_readings.proofs.WeightSums.{weight_sums}

pub transposed_sized : {zs : List ℤ} → Sized zs → Sized (listed (transposed (halves zs)))
unfolding size listed transposed halves
transposed_sized h = record { sum = omega (arith, h.sum) }

pub piece_sized : {zs : List ℤ} (n : CornerNumbers) → AllWithin largest n → (k : Piece) → zs ≡ listed (sibson n k) → Sized zs
unfolding listed halves
piece_sized n h k e = subst⁻¹ (λ zs. Sized zs) e (record { sum = weight_sums.coefficients n largest h k })
