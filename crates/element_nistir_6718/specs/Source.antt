-- The element of NISTIR 6718: formulas 105 to 108, put right, are the set we read from. Assumes nothing.
use Rattle.std.specs.Prelude.{◌≡◌, cond, List, [], ◌∷◌, map, eqb, ℤ, pos, ◌+ℤ◌}
use Rattle.element_sibson.specs.Fraction.{◌≈◌, complement}
use Rattle.element_sibson.specs.Cubic.{Point, Power, one, r¹, s¹, r², rs, s², r³, r²s, rs², s³, value}
use Rattle.element_sibson.specs.Piece.{Piece, top, right, bottom, left, FourCubics}
use Rattle.element_sibson.specs.Element.{CornerNumbers, column, weights, halved, flipped, mirrored, sibson}
use Rattle.element_nistir_6718.specs.Formulas.{twice, Term, Formulas}
use Rattle.element_nistir_6718.specs.Corrections.{formula}

-- a polynomial's doubled weights: for each power the sum of its terms
abbrev pub total : List Term → Power → ℤ
total [] p = pos 0
total (t ∷ ts) p = cond (eqb (column t.power) (column p)) (twice t.coefficient +ℤ total ts p) (total ts p)

unfoldable pub doubled : List Term → List ℤ
doubled ts = map (λ p. total ts p) (one ∷ r¹ ∷ s¹ ∷ r² ∷ rs ∷ s² ∷ r³ ∷ r²s ∷ rs² ∷ s³ ∷ [])

unfoldable pub table : Piece → List (List ℤ)
table k = map doubled (formula k)

-- the point that a formula's powers are taken at: (1 − r, 1 − s) in 106 and 107
unfoldable pub taken_at : Piece → Point → Point
taken_at top P = P
taken_at right P = record { r = complement P.r; s = complement P.s }
taken_at bottom P = record { r = complement P.r; s = complement P.s }
taken_at left P = P

-- the set of four cubics, in the cell's own r and s, that formulas give for twelve corner numbers: those of 106 and 107 are taken at (1 − r, 1 − s)
unfoldable pub cubics : Formulas → CornerNumbers → FourCubics
cubics F n top = halved (map doubled (F top)) n
cubics F n right = mirrored (flipped (halved (map doubled (F right)) n))
cubics F n bottom = mirrored (flipped (halved (map doubled (F bottom)) n))
cubics F n left = halved (map doubled (F left)) n

pub record Sources : Type 0 where
  -- 01's table is formula 105
  pub weights_are : weights ≡ table top
  -- the set we read from is formulas 105 to 108, put right, at every point
  pub pieces : (k : Piece) (n : CornerNumbers) (P : Point) → value (sibson n k) P ≈ value (halved (table k) n) (taken_at k P)
