-- That the print is wrong: each of the four misprints alone breaks the conditions of section 2. Assumes nothing.
use Rattle.std.specs.Prelude.{◌≡◌, cond, List, [], ◌∷◌, map, eqb, ℤ}
use Rattle.element_sibson.specs.Fraction.{◌≈◌}
use Rattle.element_sibson.specs.Cubic.{Cell, Point, value}
use Rattle.element_sibson.specs.Piece.{Piece, right, bottom, left, next, FourCubics, HalfDiagonal, left_top, left_bottom}
use Rattle.element_sibson.specs.Conditions.{Meets}
use Rattle.element_sibson.specs.Element.{CornerNumbers, +◌, halved, sibson}
use Rattle.element_nistir_6718.specs.Formulas.{Formulas, printed}
use Rattle.element_nistir_6718.specs.Corrections.{Row, height, x_slope, y_slope, index, Correction, corrections, term_at, formula, all_but}
use Rattle.element_nistir_6718.specs.Source.{doubled, taken_at, cubics}

-- the corner numbers that are 0 but for one, which is 1
abbrev pub one_at : Row → Row → ℤ
one_at i j = cond (eqb (index i) (index j)) (+ 1) (+ 0)

unfoldable pub unit : Row → CornerNumbers
unit i c = record { height = one_at i (height c); x_slope = one_at i (x_slope c); y_slope = one_at i (y_slope c) }

-- the heights of piece k and the next differ at a point of the half diagonal between them, so the set does not meet the conditions, whatever the cell
pub record Breaks (S : FourCubics) (k : Piece) (P : Point) : Type 0 where
  pub on_half_diagonal : HalfDiagonal k P
  pub apart : ¬ (value (S k) P ≈ value (S (next k)) P)
  pub unmet : (C : Cell) → ¬ Meets C S

-- formulas give a set that breaks the conditions where a correction says, for 1 in its row and 0 in the others
abbrev pub Shows : Correction → Formulas → Type 0
Shows c F = Breaks (cubics F (unit c.row)) c.diagonal c.point

-- P of every element
abbrev pub Each : {A : Type 0} → (A → Type 0) → List A → Type 0
Each P [] = Unit {0}
Each P (x ∷ xs) = P x × Each P xs

pub record Misprints : Type 0 where
  -- four terms are put right: in 106 one, in 107 two, in 108 one
  pub pieces : map (λ c. c.piece) corrections ≡ right ∷ bottom ∷ bottom ∷ left ∷ []
  pub rows : map (λ c. c.row) corrections ≡ x_slope left_bottom ∷ y_slope left_top ∷ y_slope left_bottom ∷ y_slope left_top ∷ []
  -- what a correction takes for printed is printed at its place
  pub fit : map (λ c. term_at c printed) corrections ≡ map (λ c. c.as_printed ∷ []) corrections
  -- the set's value at a point is the formula's, where the source takes it
  pub values : (F : Formulas) (n : CornerNumbers) (k : Piece) (P : Point) → value (cubics F n k) P ≈ value (halved (map doubled (F k)) n) (taken_at k P)
  -- put right, the formulas give the set we read from, which meets the conditions
  pub put_right : (n : CornerNumbers) (k : Piece) → cubics formula n k ≡ sibson n k
  -- put right but for any one of the four terms, they break the conditions
  pub alone : Each (λ c. Shows c (all_but c)) corrections
  -- and as printed they break them at all four places
  pub together : Each (λ c. Shows c printed) corrections
