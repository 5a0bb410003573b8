-- Bends from each piece that touches a pixel (02, #102): the list, when the call is refused, what it answers and what it leaves. Assumes nothing.
use Rattle.std.specs.Prelude.{ℕ, zero, suc, ◌-◌, Bool, cond, ltb, eqb, ℤ, length, get_or, drop, Result, Ok, Err}
use mathlib.Core.List.{List, [], ◌∷◌, ◌++◌, flat_map}
use Rattle.element_sibson.specs.Piece.{top, right, bottom, left}
use Rattle.element_readings.specs.Reading.{bends_of}
use Rattle.sheet_layout.specs.Format.{columns, rows}
use Rattle.sheet_calls.specs.Rules.{Rule, rule, first_refusal}
use Rattle.sheet_calls.specs.Refusals.{outside, sheet_rules}
use Rattle.surface_of_sheet.specs.Place.{Place, cell_at, point_at, seen, touches}
use Rattle.surface_of_sheet.specs.Surface.{cubic_at}
use Rattle.sheet_calls.specs.declared.refusal.Refusal.{Refusal}
use Rattle.sheet_calls.specs.Refused.{number}

-- ---- the pieces that touch a pixel

-- f 0, f 1 and so on to f (n − 1), one after the other
unfoldable pub in_turn : {A : Type 0} → ℕ → (ℕ → List A) → List A
in_turn zero f = []
in_turn (suc n) f = in_turn n f ++ f n

-- the place alone, if it touches pixel (x, y), else nothing
unfoldable pub if_touching : List ℕ → ℕ → ℕ → Place → List Place
if_touching s x y p = cond (touches s p x y) (p ∷ []) []

-- in the cell in row j and column i the places that touch it, by piece number. Left of a cell, or above it, the offset is 0, and `touches` fails
unfoldable pub touching_in : List ℕ → ℕ → ℕ → ℕ → ℕ → List Place
touching_in s x y j i = flat_map (λ k. if_touching s x y (seen s i j k x y)) (top ∷ right ∷ bottom ∷ left ∷ [])

-- in all cells, row by row; a sheet has one cell fewer than lines, each way
unfoldable pub touching_places : List ℕ → ℕ → ℕ → List Place
touching_places s x y = in_turn (rows s - 1) (λ j. in_turn (columns s - 1) (touching_in s x y j))

-- a place in no cell of the sheet
abbrev pub nowhere : List ℕ → ℕ → ℕ → Place
nowhere s x y = seen s (columns s) (rows s) top x y

-- the place that entry k of the list is from, counted from 0; past the end, nowhere
abbrev pub entry_place : List ℕ → ℕ → ℕ → ℕ → Place
entry_place s x y k = get_or (touching_places s x y) k (nowhere s x y)

-- ---- the list

-- the bend at a place: xx, xy, yy in 1/64 grain per pixel per pixel, the whole numbers before a reading's division
unfoldable pub bends_at : List ℕ → Place → List ℤ
bends_at s p = bends_of (cell_at s p) (cubic_at s p) (point_at s p)

-- from each piece that touches the pixel
unfoldable pub bends : List ℕ → ℕ → ℕ → List ℤ
bends s x y = flat_map (bends_at s) (touching_places s x y)

-- ---- when the call is refused

-- 14: the buffer has fewer than 24 places
unfoldable pub too_few : ℕ → Bool
too_few places = ltb places 24

-- what the call is given, its rules in the order of looking, and the number that refuses it, or 0
pub record BendsInput : Type 0 where
  pub sheet : List ℕ
  pub x : ℕ
  pub y : ℕ
  pub places : ℕ

unfoldable pub bends_rules : List (Rule BendsInput)
bends_rules = sheet_rules (λ u. u.sheet) ++ rule 7 (λ u. outside u.sheet u.x u.y) ∷ rule 14 (λ u. too_few u.places) ∷ []

unfoldable pub bends_refusal : List ℕ → ℕ → ℕ → ℕ → ℕ
bends_refusal s x y places = first_refusal bends_rules (record { sheet = s; x = x; y = y; places = places })

-- ---- what it answers

-- the refusal's number, or 0, and how many pieces are listed, none where it is refused. They tell the answers of the call apart: of a call that is not refused
-- there is a piece
pub record Tally : Type 0 where
  pub number : ℕ
  pub pieces : ℕ

unfoldable pub tally : Result ℕ Refusal → Tally
tally (Ok k) = record { number = 0; pieces = k }
tally (Err e) = record { number = number e; pieces = 0 }

-- the call's
unfoldable pub counted : List ℕ → ℕ → ℕ → ℕ → Tally
counted s x y places = let n = bends_refusal s x y places in
    cond (eqb n 0) (record { number = 0; pieces = length (touching_places s x y) }) (record { number = n; pieces = 0 })

-- ---- what it leaves

-- the list in front of what the buffer held behind it; or, refused, the buffer as it was
unfoldable pub with_bends : List ℕ → ℕ → ℕ → List ℤ → List ℤ
with_bends s x y buffer = cond (eqb (bends_refusal s x y (length buffer)) 0) (bends s x y ++ drop (length (bends s x y)) buffer) buffer
