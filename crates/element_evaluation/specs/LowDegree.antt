-- Polynomials of degree 1 and 2 at a pixel, as the derivatives of a cubic are, over one denominator. Assumes nothing.
use Rattle.std.specs.Prelude.{List, [], ◌∷◌, ℕ, ◌*◌, ℤ, pos, ◌+ℤ◌, ◌*ℤ◌, get_or}
use Rattle.element_sibson.specs.Cubic.{Cell}

-- 1, r and s at the pixel, times W H
unfoldable pub scaled_of : Cell → ℕ → ℕ → List ℤ
scaled_of C a b = let w = C.W.number in let h = C.H.number in pos (w * h) ∷ pos (a * h) ∷ pos (b * w) ∷ []

-- c₀ + c₁ r + c₂ s, times W H
unfoldable pub linear_at : List ℤ → List ℤ → ℤ
linear_at c z = get_or c 0 (pos 0) *ℤ get_or z 0 (pos 0) +ℤ get_or c 1 (pos 0) *ℤ get_or z 1 (pos 0) +ℤ get_or c 2 (pos 0) *ℤ get_or z 2 (pos 0)

-- c₀ + c₁ r + c₂ s + c₃ r² + c₄ rs + c₅ s², times W² H²
unfoldable pub quadratic_at : List ℤ → List ℤ → ℤ
quadratic_at c z =
    get_or z 0 (pos 0) *ℤ linear_at c z
    +ℤ (get_or z 1 (pos 0) *ℤ (get_or c 3 (pos 0) *ℤ get_or z 1 (pos 0) +ℤ get_or c 4 (pos 0) *ℤ get_or z 2 (pos 0)) +ℤ get_or c 5 (pos 0) *ℤ (get_or z 2 (pos 0) *ℤ get_or z 2 (pos 0)))
