-- What 01's program `levels` prints for the bytes that it has read, and the texts that it is made of, which are printed one after the other. Assumes nothing.
use Rattle.std.specs.Prelude.{ℕ, zero, suc, ◌+◌, ◌-◌, ◌*◌, ◌≤◌, List, [], ◌∷◌, ◌++◌, cond, eqb, ltb, pos}
use Rattle.sheet_layout.specs.Format.{columns, rows, line_x, line_y}
use Rattle.sheet_calls.specs.Refusals.{Accepted, sheet_refusal}
use Rattle.surface_of_sheet.specs.Surface.{level, tilt_x, tilt_y}
use Rattle.program_text.specs.Text.{line, refused_line}

-- f 0, f 1, … one after the other, n of them
unfoldable pub sequence : (ℕ → List ℕ) → ℕ → List ℕ
sequence f zero = []
sequence f (suc n) = sequence f n ++ f n

-- f a, f (a + 1), … and f b, one after the other
abbrev pub from_to : ℕ → ℕ → (ℕ → List ℕ) → List ℕ
from_to a b f = sequence (λ k. f (a + k)) (b + 1 - a)

-- the outer lines of the mesh: first and last pixel of a row, first and last row
abbrev pub first_x : List ℕ → ℕ
first_x s = line_x s 0

abbrev pub last_x : List ℕ → ℕ
last_x s = line_x s (columns s - 1)

abbrev pub first_y : List ℕ → ℕ
first_y s = line_y s 0

abbrev pub last_y : List ℕ → ℕ
last_y s = line_y s (rows s - 1)

-- y is a row of the accepted sheet s
pub record OnRow (s : List ℕ) (y : ℕ) : Type 0 where
  pub accepted : Accepted s
  pub top : first_y s ≤ y
  pub bottom : y ≤ last_y s

-- a pixel's line: x, y, level, tilt x, tilt y
unfoldable pub pixel_line : List ℕ → ℕ → ℕ → List ℕ
pixel_line s x y = line (pos x ∷ pos y ∷ level s x y ∷ tilt_x s x y ∷ tilt_y s x y ∷ [])

-- the lines of a row's pixels, from the left
unfoldable pub row_text : List ℕ → ℕ → List ℕ
row_text s y = from_to (first_x s) (last_x s) (λ x. pixel_line s x y)

-- all that is printed: of an accepted sheet the rows from the top, else the refusal's line
unfoldable pub printed : List ℕ → List ℕ
printed s = let n = sheet_refusal s in cond (eqb n 0) (from_to (first_y s) (last_y s) (row_text s)) (refused_line n)

-- ---- the texts that it is made of

-- how many there are: one for each row of an accepted sheet, else one
unfoldable pub text_count : List ℕ → ℕ
text_count s = cond (eqb (sheet_refusal s) 0) (last_y s + 1 - first_y s) 1

-- the text that comes after k of them: the next row, or the refusal's line, and at the end nothing
unfoldable pub next_text : List ℕ → ℕ → List ℕ
next_text s k = cond (ltb k (text_count s)) (let n = sheet_refusal s in cond (eqb n 0) (row_text s (first_y s + k)) (refused_line n)) []

-- ---- how long the input and a text can be

-- how many bytes of the input are read at most: one more than the longest sheet has
abbrev pub input_room : ℕ
input_room = 25619

-- no pixel's line has more bytes
abbrev pub line_room : ℕ
line_room = 64

-- nor a row's text, which has up to 4,097 pixels
abbrev pub row_room : ℕ
row_room = line_room * 4097
