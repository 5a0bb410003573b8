-- The four terms that formulas 106 to 108 print wrong, and the formulas put right. Assumes nothing.
use Rattle.std.specs.Prelude.{ℕ, ◌+◌, cond, List, [], ◌∷◌, eqb, get_or, set, take, drop}
use Rattle.element_sibson.specs.Fraction.{half}
use Rattle.element_sibson.specs.Cubic.{Point, r³, s³}
use Rattle.element_sibson.specs.Piece.{Piece, right, bottom, left, number, Corner, left_top, right_top, left_bottom, right_bottom, at}
use Rattle.element_nistir_6718.specs.Formulas.{Term, ◌of◌, +½, +1, −½, ⟨1−r⟩², ⟨1−r⟩³, ⟨1−r⟩⟨1−s⟩², ⟨1−s⟩², ⟨1−s⟩³, Formulas, printed}

-- a row by its corner number, and its place among the twelve
pub data Row : Type 0 where
  height : Corner → Row
  x_slope : Corner → Row
  y_slope : Corner → Row

abbrev pub first_row : Corner → ℕ
first_row left_top = 0
first_row right_top = 3
first_row left_bottom = 6
first_row right_bottom = 9

abbrev pub index : Row → ℕ
index (height c) = first_row c
index (x_slope c) = first_row c + 1
index (y_slope c) = first_row c + 2

-- A term that is printed wrong: the piece whose formula has it, the row, its place there from 0 on, what is printed and what is meant. By it alone the heights
-- of a piece and the next differ at a point of the half diagonal between them.
pub record Correction : Type 0 where
  pub piece : Piece
  pub row : Row
  pub place : ℕ
  pub as_printed : Term
  pub as_meant : Term
  pub diagonal : Piece
  pub point : Point

abbrev pub centre : Point
centre = record { r = half; s = half }

-- of section 2's equations the first breaks that of the heights in (6), the others that in (8)
unfoldable pub corrections : List Correction
corrections =
    -- 106, x-slope 01
    record { piece = right; row = x_slope left_bottom; place = 0; as_printed = −½ of ⟨1−r⟩²; as_meant = −½ of ⟨1−r⟩³; diagonal = right; point = centre } ∷
    -- 107, y-slope 00 and y-slope 01
    record { piece = bottom; row = y_slope left_top; place = 0; as_printed = +½ of ⟨1−r⟩⟨1−s⟩²; as_meant = +1 of ⟨1−r⟩⟨1−s⟩²; diagonal = bottom; point = centre } ∷
    record { piece = bottom; row = y_slope left_bottom; place = 1; as_printed = −½ of ⟨1−s⟩²; as_meant = −½ of ⟨1−s⟩³; diagonal = bottom; point = centre } ∷
    -- 108, y-slope 00
    record { piece = left; row = y_slope left_top; place = 1; as_printed = +1 of r³; as_meant = +1 of s³; diagonal = bottom; point = at left_bottom } ∷ []

-- the polynomial of a correction's row
abbrev pub polynomial_of : Correction → Formulas → List Term
polynomial_of c F = get_or (F c.piece) (index c.row) []

-- the term at its place, if there is one
unfoldable pub term_at : Correction → Formulas → List Term
term_at c F = take 1 (drop c.place (polynomial_of c F))

-- the formulas with another term at its place
unfoldable pub replaced : Correction → Term → Formulas → Formulas
replaced c t F k = cond (eqb (number k) (number c.piece)) (set (F k) (index c.row) (set (polynomial_of c F) c.place t)) (F k)

unfoldable pub corrected : List Correction → Formulas
corrected [] = printed
corrected (c ∷ cs) = replaced c c.as_meant (corrected cs)

-- the formulas put right, and put right but for one term
unfoldable pub formula : Formulas
formula = corrected corrections

unfoldable pub all_but : Correction → Formulas
all_but c = replaced c c.as_printed formula
