-- NISTIR 6718, formulas 105 to 108 as printed, misprints and all, term by term. Assumes nothing.
use Rattle.std.specs.Prelude.{List, [], ◌∷◌, ℤ}
use Rattle.element_sibson.specs.Cubic.{Power, one, r¹, s¹, r², rs, s², r³, r²s, rs², s³}
-- the powers of 106 and 107, which print (1−r) where 105 and 108 print r, and (1−s) where these print s
pub use Rattle.element_sibson.specs.Cubic.{r¹ as ⟨1−r⟩, s¹ as ⟨1−s⟩, r² as ⟨1−r⟩², rs as ⟨1−r⟩⟨1−s⟩, s² as ⟨1−s⟩²}
pub use Rattle.element_sibson.specs.Cubic.{r³ as ⟨1−r⟩³, r²s as ⟨1−r⟩²⟨1−s⟩, rs² as ⟨1−r⟩⟨1−s⟩², s³ as ⟨1−s⟩³}
use Rattle.element_sibson.specs.Piece.{Piece, top, right, bottom, left}
use Rattle.element_sibson.specs.Element.{+◌, −◌}

-- the coefficients of the print, and twice each
pub data Coefficient : Type 0 where
  +½ : Coefficient
  +1 : Coefficient
  +³⁄₂ : Coefficient
  +2 : Coefficient
  +3 : Coefficient
  −½ : Coefficient
  −1 : Coefficient
  −³⁄₂ : Coefficient
  −2 : Coefficient
  −3 : Coefficient

unfoldable pub twice : Coefficient → ℤ
twice +½ = + 1
twice +1 = + 2
twice +³⁄₂ = + 3
twice +2 = + 4
twice +3 = + 6
twice −½ = − 1
twice −1 = − 2
twice −³⁄₂ = − 3
twice −2 = − 4
twice −3 = − 6

infix 80 ◌of◌
-- a term: its coefficient and its power
pub record Term : Type 0 where
  pub coefficient : Coefficient
  pub power : Power

abbrev pub ◌of◌ : Coefficient → Power → Term
c of p = record { coefficient = c; power = p }

-- for each piece its formula: the polynomials of the twelve corner numbers, in the order of the weights' rows
abbrev pub Formulas : Type 0
Formulas = Piece → List (List Term)

-- Polynomials and terms stand in the print's order. Its Δx and Δy are in the corner numbers. The brackets that 106 lacks round its first polynomial (97 has
-- them) are taken as meant.
unfoldable pub printed : Formulas
-- formula 105
printed top =
    (+1 of one ∷ −3 of s² ∷ −3 of r² ∷ +1 of s³ ∷ +2 of r³ ∷ +3 of rs² ∷ []) ∷  -- height 00
    (+1 of r³ ∷ +½ of rs² ∷ −2 of r² ∷ −½ of s² ∷ +1 of r¹ ∷ []) ∷  -- x-slope 00
    (+1 of rs² ∷ +½ of s³ ∷ −1 of rs ∷ −³⁄₂ of s² ∷ +1 of s¹ ∷ []) ∷  -- y-slope 00
    (−2 of r³ ∷ −3 of rs² ∷ +1 of s³ ∷ +3 of r² ∷ []) ∷  -- height 10
    (+1 of r³ ∷ +½ of rs² ∷ −1 of r² ∷ []) ∷  -- x-slope 10
    (−1 of rs² ∷ +½ of s³ ∷ +1 of rs ∷ −½ of s² ∷ []) ∷  -- y-slope 10
    (−3 of rs² ∷ −1 of s³ ∷ +3 of s² ∷ []) ∷  -- height 01
    (−½ of rs² ∷ +½ of s² ∷ []) ∷  -- x-slope 01
    (+½ of s³ ∷ −1 of s² ∷ +1 of rs² ∷ []) ∷  -- y-slope 01
    (+3 of rs² ∷ −1 of s³ ∷ []) ∷  -- height 11
    (−½ of rs² ∷ []) ∷  -- x-slope 11
    (−1 of rs² ∷ +½ of s³ ∷ []) ∷ []  -- y-slope 11
-- formula 106
printed right =
    (−1 of ⟨1−r⟩³ ∷ +3 of ⟨1−r⟩²⟨1−s⟩ ∷ []) ∷  -- height 00
    (−½ of ⟨1−r⟩³ ∷ +1 of ⟨1−r⟩²⟨1−s⟩ ∷ []) ∷  -- x-slope 00
    (+½ of ⟨1−r⟩²⟨1−s⟩ ∷ []) ∷  -- y-slope 00
    (+1 of ⟨1−r⟩³ ∷ −3 of ⟨1−r⟩²⟨1−s⟩ ∷ −2 of ⟨1−s⟩³ ∷ +3 of ⟨1−s⟩² ∷ []) ∷  -- height 10
    (−½ of ⟨1−r⟩³ ∷ +1 of ⟨1−r⟩²⟨1−s⟩ ∷ +½ of ⟨1−r⟩² ∷ −1 of ⟨1−r⟩⟨1−s⟩ ∷ []) ∷  -- x-slope 10
    (−½ of ⟨1−r⟩²⟨1−s⟩ ∷ −1 of ⟨1−s⟩³ ∷ +1 of ⟨1−s⟩² ∷ []) ∷  -- y-slope 10
    (−1 of ⟨1−r⟩³ ∷ −3 of ⟨1−r⟩²⟨1−s⟩ ∷ +3 of ⟨1−r⟩² ∷ []) ∷  -- height 01
    (−½ of ⟨1−r⟩² ∷ −1 of ⟨1−r⟩²⟨1−s⟩ ∷ +1 of ⟨1−r⟩² ∷ []) ∷  -- x-slope 01
    (+½ of ⟨1−r⟩²⟨1−s⟩ ∷ −½ of ⟨1−r⟩² ∷ []) ∷  -- y-slope 01
    (+1 of ⟨1−r⟩³ ∷ +3 of ⟨1−r⟩²⟨1−s⟩ ∷ +2 of ⟨1−s⟩³ ∷ −3 of ⟨1−r⟩² ∷ −3 of ⟨1−s⟩² ∷ +1 of one ∷ []) ∷  -- height 11
    (−½ of ⟨1−r⟩³ ∷ −1 of ⟨1−r⟩²⟨1−s⟩ ∷ +³⁄₂ of ⟨1−r⟩² ∷ +1 of ⟨1−r⟩⟨1−s⟩ ∷ −1 of ⟨1−r⟩ ∷ []) ∷  -- x-slope 11
    (−½ of ⟨1−r⟩²⟨1−s⟩ ∷ −1 of ⟨1−s⟩³ ∷ +½ of ⟨1−r⟩² ∷ +2 of ⟨1−s⟩² ∷ −1 of ⟨1−s⟩ ∷ []) ∷ []  -- y-slope 11
-- formula 107
printed bottom =
    (+3 of ⟨1−r⟩⟨1−s⟩² ∷ −1 of ⟨1−s⟩³ ∷ []) ∷  -- height 00
    (+½ of ⟨1−r⟩⟨1−s⟩² ∷ []) ∷  -- x-slope 00
    (+½ of ⟨1−r⟩⟨1−s⟩² ∷ −½ of ⟨1−s⟩³ ∷ []) ∷  -- y-slope 00
    (−3 of ⟨1−r⟩⟨1−s⟩² ∷ −1 of ⟨1−s⟩³ ∷ +3 of ⟨1−s⟩² ∷ []) ∷  -- height 10
    (+½ of ⟨1−r⟩⟨1−s⟩² ∷ −½ of ⟨1−s⟩² ∷ []) ∷  -- x-slope 10
    (−1 of ⟨1−r⟩⟨1−s⟩² ∷ −½ of ⟨1−s⟩³ ∷ +1 of ⟨1−s⟩² ∷ []) ∷  -- y-slope 10
    (−2 of ⟨1−r⟩³ ∷ −3 of ⟨1−r⟩⟨1−s⟩² ∷ +1 of ⟨1−s⟩³ ∷ +3 of ⟨1−r⟩² ∷ []) ∷  -- height 01
    (−1 of ⟨1−r⟩³ ∷ −½ of ⟨1−r⟩⟨1−s⟩² ∷ +1 of ⟨1−r⟩² ∷ []) ∷  -- x-slope 01
    (+1 of ⟨1−r⟩⟨1−s⟩² ∷ −½ of ⟨1−s⟩² ∷ −1 of ⟨1−r⟩⟨1−s⟩ ∷ +½ of ⟨1−s⟩² ∷ []) ∷  -- y-slope 01
    (+2 of ⟨1−r⟩³ ∷ +3 of ⟨1−r⟩⟨1−s⟩² ∷ +1 of ⟨1−s⟩³ ∷ −3 of ⟨1−r⟩² ∷ −3 of ⟨1−s⟩² ∷ +1 of one ∷ []) ∷  -- height 11
    (−1 of ⟨1−r⟩³ ∷ −½ of ⟨1−r⟩⟨1−s⟩² ∷ +2 of ⟨1−r⟩² ∷ +½ of ⟨1−s⟩² ∷ −1 of ⟨1−r⟩ ∷ []) ∷  -- x-slope 11
    (−1 of ⟨1−r⟩⟨1−s⟩² ∷ −½ of ⟨1−s⟩³ ∷ +1 of ⟨1−r⟩⟨1−s⟩ ∷ +³⁄₂ of ⟨1−s⟩² ∷ −1 of ⟨1−s⟩ ∷ []) ∷ []  -- y-slope 11
-- formula 108
printed left =
    (+1 of r³ ∷ +3 of r²s ∷ +2 of s³ ∷ −3 of r² ∷ −3 of s² ∷ +1 of one ∷ []) ∷  -- height 00
    (+½ of r³ ∷ +1 of r²s ∷ −³⁄₂ of r² ∷ −1 of rs ∷ +1 of r¹ ∷ []) ∷  -- x-slope 00
    (+½ of r²s ∷ +1 of r³ ∷ −½ of r² ∷ −2 of s² ∷ +1 of s¹ ∷ []) ∷  -- y-slope 00
    (−1 of r³ ∷ −3 of r²s ∷ +3 of r² ∷ []) ∷  -- height 10
    (+½ of r³ ∷ +1 of r²s ∷ −1 of r² ∷ []) ∷  -- x-slope 10
    (−½ of r²s ∷ +½ of r² ∷ []) ∷  -- y-slope 10
    (+1 of r³ ∷ −3 of r²s ∷ −2 of s³ ∷ +3 of s² ∷ []) ∷  -- height 01
    (+½ of r³ ∷ −1 of r²s ∷ −½ of r² ∷ +1 of rs ∷ []) ∷  -- x-slope 01
    (+½ of r²s ∷ +1 of s³ ∷ −1 of s² ∷ []) ∷  -- y-slope 01
    (−1 of r³ ∷ +3 of r²s ∷ []) ∷  -- height 11
    (+½ of r³ ∷ −1 of r²s ∷ []) ∷  -- x-slope 11
    (−½ of r²s ∷ []) ∷ []  -- y-slope 11
