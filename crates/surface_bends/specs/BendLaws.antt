-- Which pieces touch a pixel, how many and in which order; what the call refuses, answers and leaves. Assumes nothing.
use Rattle.std.specs.Prelude.{ℕ, ◌+◌, ◌*◌, ◌≤◌, ◌<◌, ◌≡◌, ◌↔◌, ◌⊎◌, List, [], ◌∷◌, map, false, T, ℤ, pos, length, get_or, Result, Ok, Err}
use Rattle.element_sibson.specs.Fraction.{◌≈◌, complement}
use Rattle.element_sibson.specs.Piece.{number}
use Rattle.sheet_layout.specs.Format.{columns, rows, line_x, line_y}
use Rattle.sheet_calls.specs.Refusals.{Accepted}
use Rattle.sheet_calls.specs.WellFormed.{Inside}
use Rattle.surface_of_sheet.specs.Place.{Place, point_at, place, touches}
use Rattle.surface_of_sheet.specs.Surface.{bend_xx_at, bend_xy_at, bend_yy_at}
use Rattle.surface_bends.specs.Bends.{touching_places, entry_place, bends, too_few, bends_rules, bends_refusal, tally, counted, with_bends}
use Rattle.sheet_calls.specs.declared.refusal.Refusal.{Refusal}
use Rattle.sheet_calls.specs.Refused as refused
use Rattle.sheet_calls.specs.Refused.{RefusedWith}

-- ---- the pieces that touch a pixel

-- p comes before q: it lies in a row further up, or in the same row and a column further left, or in the same cell and has the lower piece number
unfoldable pub Before : Place → Place → Type 0
Before p q = (p.row < q.row)
    ⊎ ((p.row ≡ q.row) × ((p.column < q.column) ⊎ ((p.column ≡ q.column) × (number p.piece < number q.piece))))

-- p is one of those listed
pub record Among (s : List ℕ) (x y : ℕ) (p : Place) : Type 0 where
  pub index : ℕ
  pub below : index < length (touching_places s x y)
  pub there : entry_place s x y index ≡ p

pub record TouchingLaws : Type 0 where
  -- whatever touches the pixel is listed, and nothing else
  pub every : (s : List ℕ) (x y : ℕ) (p : Place) → T (touches s p x y) → Among s x y p
  pub only : (s : List ℕ) (x y k : ℕ) → k < length (touching_places s x y) → T (touches s (entry_place s x y k) x y)
  -- cells row by row, in each the pieces by number; so each once
  pub ordered : (s : List ℕ) (x y k m : ℕ) → k < m → m < length (touching_places s x y) → Before (entry_place s x y k) (entry_place s x y m)
  pub once : (s : List ℕ) (x y k m : ℕ) → k < length (touching_places s x y) → m < length (touching_places s x y) → entry_place s x y k ≡ entry_place s x y m → k ≡ m
  -- at most eight; at least one at every pixel of the mesh
  pub most : (s : List ℕ) (x y : ℕ) → Accepted s → length (touching_places s x y) ≤ 8
  pub least : (s : List ℕ) (x y : ℕ) → Accepted s → Inside s x y → 1 ≤ length (touching_places s x y)
  -- one, where the pixel lies inside a piece: on no line of the mesh, and on no diagonal of its cell
  pub alone : (s : List ℕ) (x y : ℕ) → Accepted s → Inside s x y →
      ((i : ℕ) → i < columns s → ¬ (x ≡ line_x s i)) → ((j : ℕ) → j < rows s → ¬ (y ≡ line_y s j)) →
      ¬ ((point_at s (place s x y)).r ≈ (point_at s (place s x y)).s) → ¬ ((point_at s (place s x y)).r ≈ complement (point_at s (place s x y)).s) →
      length (touching_places s x y) ≡ 1

-- ---- the list and the call

pub record BendLaws : Type 0 where
  -- three numbers a piece, so at most 24; those of entry k are the bend at its place, xx, xy, yy
  pub size : (s : List ℕ) (x y : ℕ) → length (bends s x y) ≡ 3 * length (touching_places s x y)
  pub few : (s : List ℕ) (x y : ℕ) → Accepted s → length (bends s x y) ≤ 24
  pub xx : (s : List ℕ) (x y k : ℕ) → k < length (touching_places s x y) → get_or (bends s x y) (3 * k) (pos 0) ≡ bend_xx_at s (entry_place s x y k)
  pub xy : (s : List ℕ) (x y k : ℕ) → k < length (touching_places s x y) → get_or (bends s x y) (3 * k + 1) (pos 0) ≡ bend_xy_at s (entry_place s x y k)
  pub yy : (s : List ℕ) (x y k : ℕ) → k < length (touching_places s x y) → get_or (bends s x y) (3 * k + 2) (pos 0) ≡ bend_yy_at s (entry_place s x y k)
  -- the numbers that the call looks at, in order, and what 14 says
  pub numbers : map (λ r. r.number) bends_rules ≡ 1 ∷ 2 ∷ 3 ∷ 4 ∷ 5 ∷ 6 ∷ 7 ∷ 14 ∷ []
  pub fourteen : (places : ℕ) → (too_few places ≡ false) ↔ (24 ≤ places)
  -- a call that is not refused has an accepted sheet, a pixel of its mesh and 24 places or more; and every such call is taken
  pub taken : (s : List ℕ) (x y places : ℕ) → (bends_refusal s x y places ≡ 0) ↔ (Accepted s × Inside s x y × (24 ≤ places))
  -- it answers how many pieces touch the pixel; refused, the number. Which number and count each case has
  pub of_pieces : (k : ℕ) → tally (Ok k) ≡ record { number = 0; pieces = k }
  pub of_refused : (e : Refusal) → tally (Err e) ≡ record { number = refused.number e; pieces = 0 }
  pub pieces : (s : List ℕ) (x y places : ℕ) → bends_refusal s x y places ≡ 0 → (r : Result ℕ Refusal) → tally r ≡ counted s x y places → r ≡ Ok (length (touching_places s x y))
  pub refused : (s : List ℕ) (x y places : ℕ) → ¬ (bends_refusal s x y places ≡ 0) → (r : Result ℕ Refusal) → tally r ≡ counted s x y places →
      RefusedWith r (bends_refusal s x y places)
  -- the buffer keeps its length; refused, it is as it was; else it starts with the list, and what lies behind is as it was
  pub buffer : (s : List ℕ) (x y : ℕ) (buffer : List ℤ) → length (with_bends s x y buffer) ≡ length buffer
  pub untouched : (s : List ℕ) (x y : ℕ) (buffer : List ℤ) → ¬ (bends_refusal s x y (length buffer) ≡ 0) → with_bends s x y buffer ≡ buffer
  pub front : (s : List ℕ) (x y : ℕ) (buffer : List ℤ) → bends_refusal s x y (length buffer) ≡ 0 → (k : ℕ) → k < length (bends s x y) →
      (z : ℤ) → get_or (with_bends s x y buffer) k z ≡ get_or (bends s x y) k z
  pub behind : (s : List ℕ) (x y : ℕ) (buffer : List ℤ) → (k : ℕ) → 3 * length (touching_places s x y) ≤ k →
      (z : ℤ) → get_or (with_bends s x y buffer) k z ≡ get_or buffer k z
