-- A cubic's ten coefficients in a list, as the code holds those of a piece, doubled; and their size. Assumes nothing.
use Rattle.std.specs.Prelude.{List, [], ◌∷◌, map, ℕ, ◌+◌, ◌*◌, ◌≤◌, ℤ, pos, nat_abs, get_or}
use Rattle.element_sibson.specs.Fraction.{positive}
use Rattle.element_sibson.specs.Cubic.{Cubic, one, r¹, s¹, r², rs, s², r³, r²s, rs², s³, coefficient, cubic_of}
use Rattle.element_sibson.specs.Element.{column}
use Rattle.element_cell.specs.Corners.{largest}

-- a cubic's ten coefficients, undivided, in the order of `column`: the doubled ones, of a cubic over the divisor 2
unfoldable pub listed : Cubic → List ℤ
listed f = map (λ p. coefficient f p) (one ∷ r¹ ∷ s¹ ∷ r² ∷ rs ∷ s² ∷ r³ ∷ r²s ∷ rs² ∷ s³ ∷ [])

-- the sum of the absolute values
unfoldable pub size : List ℤ → ℕ
size [] = 0
size (z ∷ zs) = nat_abs z + size zs

-- the cubic whose doubled coefficients these are; one that is not listed is 0
unfoldable pub halves : List ℤ → Cubic
halves k = cubic_of (λ p. get_or k (column p) (pos 0)) (positive 2 tt)

-- what 64 bits are enough for: without their signs they add up to at most 256 times the largest corner number, as those of every piece do (`Joined` of
-- `element_turnings`)
pub record Sized (k : List ℤ) : Type 0 where
  pub sum : size (listed (halves k)) ≤ 256 * largest
