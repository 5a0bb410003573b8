-- The height along a row of pixels: over the divisor times W³ H³ it is a cubic in the offset from the cell's left edge. Assumes nothing.
use Rattle.std.specs.Prelude.{◌≡◌, List, [], ◌∷◌, ℕ, ◌+◌, ◌*◌, ℤ, pos, nat_abs, ◌+ℤ◌, ◌*ℤ◌, get_or}
use Rattle.integers.specs.Round.{round}
use Rattle.element_sibson.specs.Fraction.{Positive, ◌*⁺◌, ◌≈◌, whole, ◌÷◌}
use Rattle.element_sibson.specs.Cubic.{Cell, pixel, Cubic, value}
use Rattle.element_readings.specs.Reading.{level_of}

-- c₀ + c₁ s + c₂ s² + c₃ s³ at s = b/h, times h³; one that is not listed is 0
unfoldable pub down : List ℤ → ℕ → ℕ → ℤ
down c b h =
    get_or c 0 (pos 0) *ℤ pos (h * h * h) +ℤ get_or c 1 (pos 0) *ℤ pos (b * h * h) +ℤ get_or c 2 (pos 0) *ℤ pos (b * b * h) +ℤ get_or c 3 (pos 0) *ℤ pos (b * b * b)

-- its four coefficients in the row b pixels from the top edge
unfoldable pub along_row : Cell → Cubic → ℕ → List ℤ
along_row C f b = let w = C.W.number in let h = C.H.number in
    (pos (w * w * w) *ℤ down (f.c00 ∷ f.c01 ∷ f.c02 ∷ f.c03 ∷ []) b h) ∷
    (pos (w * w) *ℤ down (f.c10 ∷ f.c11 ∷ f.c12 ∷ []) b h) ∷
    (pos w *ℤ down (f.c20 ∷ f.c21 ∷ []) b h) ∷
    down (f.c30 ∷ []) b h ∷ []

-- the value at an offset of the cubic with four coefficients
unfoldable pub at_offset : List ℤ → ℕ → ℤ
at_offset p a = get_or p 0 (pos 0) +ℤ get_or p 1 (pos 0) *ℤ pos a +ℤ get_or p 2 (pos 0) *ℤ pos (a * a) +ℤ get_or p 3 (pos 0) *ℤ pos (a * a * a)

-- W³ H³
unfoldable pub cubes_of : Cell → Positive
cubes_of C = C.W *⁺ C.W *⁺ C.W *⁺ (C.H *⁺ C.H *⁺ C.H)

pub record RowLaws : Type 0 where
  pub heights : (C : Cell) (f : Cubic) (a b : ℕ) → value f (pixel C a b) ≈ whole (at_offset (along_row C f b) a) ÷ (f.divisor *⁺ cubes_of C)
  -- so a level takes the value at its offset and one rounding
  pub levels : (C : Cell) (f : Cubic) (a b : ℕ) → level_of C f (pixel C a b) ≡ round (at_offset (along_row C f b) a) (f.divisor.number * (cubes_of C).number)

-- what bounds the cubic, and each part of it in Horner's rule, at offsets up to 64: p₀ + 64 (p₁ + 64 (p₂ + 64 p₃)) without signs
unfoldable pub reach : List ℤ → ℕ
reach p = nat_abs (get_or p 0 (pos 0)) + 64 * (nat_abs (get_or p 1 (pos 0)) + 64 * (nat_abs (get_or p 2 (pos 0)) + 64 * nat_abs (get_or p 3 (pos 0))))
