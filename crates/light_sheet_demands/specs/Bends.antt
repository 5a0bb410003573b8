-- 02's request #102, "Both sides of a crease", sentence by sentence, of whatever `bends` may give and leave, and `lvs_bends`; when it is refused, and which
-- places of the buffer it leaves alone, demand 1 says too. What a piece's triangle is, demand 3 says (`covering`). Assumes nothing.
use Rattle.std.specs.Prelude.{ℕ, suc, ◌+◌, ◌*◌, ◌≤◌, ◌<◌, ◌≡◌, ◌↔◌, List, [], ◌∷◌, false, ℤ, pos, length, get_or, Result, Ok, Err}
use Rattle.element_sibson.specs.Fraction.{positive, ◌≈◌, complement, whole, half, ◌-ℚ◌, ◌·ℚ◌}
use Rattle.element_sibson.specs.Cubic.{◌≋◌}
use Rattle.element_sibson.specs.Piece.{number}
use Rattle.element_readings.specs.Reading.{rounded, ◌withinℚ◌}
use Rattle.sheet_layout.specs.Format.{columns, rows, line_x, line_y}
use Rattle.sheet_layout.specs.UnevenMesh.{uneven_mesh}
use Rattle.sheet_calls.specs.Refusals.{Accepted}
use Rattle.sheet_calls.specs.WellFormed.{Inside}
use Rattle.surface_answers.specs.Answers.{outcome}
use Rattle.surface_answers.specs.declared.Answer.{Answer}
use Rattle.surface_of_sheet.specs.Place.{HasCell, Place, point_at, columns_at, rows_at, place}
use Rattle.surface_of_sheet.specs.Touching.{Touches, CellLaws, PlaceLaws}
use Rattle.surface_bends.specs.Bends.{entry_place, bends, too_few, tally}
use Rattle.surface_bends.specs.BendLaws.{Before}
use Rattle.sheet_calls.specs.declared.refusal.Refusal.{Refusal}
use Rattle.sheet_calls.specs.Refused as refused
use Rattle.light_sheet_demands.specs.CallRecords.{Read, ListBends, BendsInto}
use Rattle.light_sheet_demands.specs.Demands.{place_jet, place_bend, pixel_jet, given}

-- three numbers are the bend at a place, in 1/64 grain per pixel per pixel, rounded; so each lies within half a unit of the exact second derivative of the cubic
-- on that piece of that cell
pub record Entry (s : List ℕ) (p : Place) (xx xy yy : ℤ) : Type 0 where
  pub is_xx : xx ≡ rounded (pos 64 ·ℚ (place_bend s p).xx)
  pub is_xy : xy ≡ rounded (pos 64 ·ℚ (place_bend s p).xy)
  pub is_yy : yy ≡ rounded (pos 64 ·ℚ (place_bend s p).yy)
  pub near_xx : whole xx -ℚ pos 64 ·ℚ (place_bend s p).xx withinℚ half
  pub near_xy : whole xy -ℚ pos 64 ·ℚ (place_bend s p).xy withinℚ half
  pub near_yy : whole yy -ℚ pos 64 ·ℚ (place_bend s p).yy withinℚ half

-- of the entries of so many pieces, entry k is from the right or lower cell, and of those from this cell it has the lowest piece number
pub record IsRead (s : List ℕ) (x y pieces k : ℕ) : Type 0 where
  pub below : k < pieces
  pub rightmost : (m : ℕ) → m < pieces → (entry_place s x y m).column ≤ (entry_place s x y k).column
  pub lowermost : (m : ℕ) → m < pieces → (entry_place s x y m).row ≤ (entry_place s x y k).row
  pub lowest : (m : ℕ) → m < pieces → (entry_place s x y m).column ≡ (entry_place s x y k).column → (entry_place s x y m).row ≡ (entry_place s x y k).row →
      number (entry_place s x y k).piece ≤ number (entry_place s x y m).piece

-- what is shown of a call that is not refused: it gives so many pieces and leaves buffer'. Entry k, from 0, is from the place `entry_place s x y k`
pub record BendList (s : List ℕ) (x y : ℕ) (buffer : List ℤ) (pieces : ℕ) (buffer' : List ℤ) : Type 0 where
  -- "Our screen setters want the bend from each piece that touches a pixel": whatever touches it is listed, once, and nothing else
  pub touches : (k : ℕ) → k < pieces → Touches s (entry_place s x y k) x y
  pub every : (p : Place) → Touches s p x y → (k : ℕ) × (k < pieces) × (entry_place s x y k ≡ p)
  pub once : (k m : ℕ) → k < pieces → m < pieces → entry_place s x y k ≡ entry_place s x y m → k ≡ m
  -- "The list runs by cells row by row, then pieces by number, three numbers each, in a lent buffer of signed 64-bit numbers."
  pub order : (k m : ℕ) → k < m → m < pieces → Before (entry_place s x y k) (entry_place s x y m)
  pub entry : (k : ℕ) → k < pieces →
      Entry s (entry_place s x y k) (get_or buffer' (3 * k) (pos 0)) (get_or buffer' (3 * k + 1) (pos 0)) (get_or buffer' (3 * k + 2) (pos 0))
  -- the count is the list's length over three
  pub third : length (bends s x y) ≡ 3 * pieces
  -- "At most eight pieces touch a pixel." So 24 places are enough. There is always one
  pub least : 1 ≤ pieces
  pub most : pieces ≤ 8
  pub enough : (3 * pieces ≤ 24) × (24 ≤ length buffer)
  -- inside a piece there is one: on no line of the mesh, and on no diagonal of the cell
  pub alone : ((i : ℕ) → i < columns s → ¬ (x ≡ line_x s i)) → ((j : ℕ) → j < rows s → ¬ (y ≡ line_y s j)) →
      ¬ ((point_at s (place s x y)).r ≈ (point_at s (place s x y)).s) → ¬ ((point_at s (place s x y)).r ≈ complement (point_at s (place s x y)).s) → pieces ≡ 1
  -- "Places beyond the list keep their contents"
  pub beyond : (k : ℕ) → 3 * pieces ≤ k → (z : ℤ) → get_or buffer' k z ≡ get_or buffer k z
  -- "Level and tilt are shown to be the same from every piece listed.": exactly, and of what a reading gives at the pixel
  pub jets : (k : ℕ) → k < pieces → place_jet s (entry_place s x y k) ≋ pixel_jet s x y
  pub levels : {t : List ℕ} {r : Answer} → Read s x y 0 r t → (k : ℕ) → k < pieces →
      outcome r ≡ given (positive 64 tt) (rounded (place_jet s (entry_place s x y k)).height ∷ [])
  pub tilts : {t : List ℕ} {r : Answer} → Read s x y 1 r t → (k : ℕ) → k < pieces →
      outcome r ≡ given (positive 64 tt) (rounded (place_jet s (entry_place s x y k)).x_slope ∷ rounded (place_jet s (entry_place s x y k)).y_slope ∷ [])
  -- "The bend reading of 01 is the entry for the right or lower cell and its lowest piece." The list has it, and a reading gives it
  pub read : (k : ℕ) × IsRead s x y pieces k
  pub reading : {t : List ℕ} {r : Answer} → Read s x y 2 r t → (k : ℕ) → IsRead s x y pieces k →
      outcome r ≡ given (positive 4096 tt) (get_or buffer' (3 * k) (pos 0) ∷ get_or buffer' (3 * k + 1) (pos 0) ∷ get_or buffer' (3 * k + 2) (pos 0) ∷ [])

pub record BothSides : Type 0 where
  -- a call that is not refused; in C the count is the one that is left
  pub lists : {s t : List ℕ} {x y : ℕ} {buffer buffer' : List ℤ} {r : Result ℕ Refusal} → ListBends s x y buffer r buffer' t → (tally r).number ≡ 0 →
      BendList s x y buffer (tally r).pieces buffer'
  pub in_c : {s t : List ℕ} {x y count count' : ℕ} {buffer buffer' : List ℤ} → BendsInto s x y buffer count 0 buffer' count' t →
      BendList s x y buffer count' buffer'
  -- it is taken at every pixel of an accepted sheet's mesh, with 24 places or more
  pub taken : {s t : List ℕ} {x y : ℕ} {buffer buffer' : List ℤ} {r : Result ℕ Refusal} → ListBends s x y buffer r buffer' t →
      ((tally r).number ≡ 0) ↔ (Accepted s × Inside s x y × (24 ≤ length buffer))
  -- "and the count of pieces, told apart from a refusal, is returned.": which number and count each case of the answer has
  pub count : {s t : List ℕ} {x y : ℕ} {buffer buffer' : List ℤ} {r : Result ℕ Refusal} → ListBends s x y buffer r buffer' t → (tally r).number ≡ 0 →
      r ≡ Ok (tally r).pieces
  pub answers : ((k : ℕ) → tally (Ok k) ≡ record { number = 0; pieces = k }) × ((e : Refusal) → tally (Err e) ≡ record { number = refused.number e; pieces = 0 })
  -- there are pixels with eight pieces, as where the inner lines of this sheet of four cells cross; "since bends jump there": xx to the left, and to the right
  pub eight : {t : List ℕ} {buffer buffer' : List ℤ} {r : Result ℕ Refusal} → 24 ≤ length buffer → ListBends uneven_mesh 7 6 buffer r buffer' t → r ≡ Ok 8
  pub jump : {t : List ℕ} {buffer buffer' : List ℤ} {r : Result ℕ Refusal} → 24 ≤ length buffer → ListBends uneven_mesh 7 6 buffer r buffer' t →
      ¬ (get_or buffer' 0 (pos 0) ≡ get_or buffer' 6 (pos 0))
  -- "Finding a pixel's place must therefore give the lowest and highest cell along each axis, and every caller lives with that." The code's `find` gives these;
  -- a cell has the pixel in it, its edges counted, exactly when it lies from the lowest to the highest; and the place that is read is taken from them
  pub cells : {s : List ℕ} {x y i j : ℕ} → Accepted s → Inside s x y → HasCell s i j →
      ((line_x s i ≤ x) × (x ≤ line_x s (suc i)) × (line_y s j ≤ y) × (y ≤ line_y s (suc j)))
      ↔ (((columns_at s x).lowest ≤ i) × (i ≤ (columns_at s x).highest) × ((rows_at s y).lowest ≤ j) × (j ≤ (rows_at s y).highest))
  pub along : CellLaws
  pub read_from : (s : List ℕ) (x y : ℕ) → ((place s x y).column ≡ (columns_at s x).highest) × ((place s x y).row ≡ (rows_at s y).highest)
  pub places : PlaceLaws
  -- "Errors: 14 when the buffer has fewer than 24 places, after 7." The order is that of `of_bends`; this is what 14 says
  pub fourteen : (n : ℕ) → (too_few n ≡ false) ↔ (24 ≤ n)
