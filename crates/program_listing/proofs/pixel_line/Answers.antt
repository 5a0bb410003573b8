-- `program_listing::pixel_line` meets its contract. Assumes nothing.
use Rattle.std.proofs.Common.{ℕ, ◌+◌, ◌^◌, ◌≡◌, ◌∙◌, List, [], ◌∷◌, ℤ, pos, length, get_or, w64, ap, arith, rules}
use native.Mathlib.Nat.{le_of_lt}
use Rattle.integers.proofs.Bounds.{is_within}
use Rattle.integers.proofs.Operand.{Operand, returned}
use Rattle.sheet_words.specs.Word.{replaced}
use Rattle.sheet_calls.specs.Refusals.{Accepted}
use Rattle.sheet_calls.specs.WellFormed.{Inside}
use Rattle.surface_of_sheet.specs.Surface.{level, tilt_x, tilt_y}
use Rattle.surface_of_sheet.proofs.Cells.{last_x_near, last_y_near}
use Rattle.surface_of_sheet.proofs.Sizes.{level_below, tilts_below}
use Rattle.program_text.specs.Text.{line}
use Rattle.program_listing.specs.Listing.{pixel_line}
use Rattle.program_listing.proofs.Lengths.{line_fits}
use Rattle.program_listing.proofs.pixel_line.Goals as goal

-- the numbers as they are handed on are those of the pixel's line
module _ (s : List ℕ) (x y : ℕ) (accepted : Accepted s) (inside : Inside s x y) {a b : ℤ} {r : List ℤ} (across : a ≡ pos x) (down : b ≡ pos y)
    (is : r ≡ level s x y ∷ tilt_x s x y ∷ tilt_y s x y ∷ []) where
  abbrev x_read : Operand
  x_read = returned w64 across (is_within _ {N = 4096} (omega (arith, inside.right, last_x_near s accepted))) tt

  abbrev y_read : Operand
  y_read = returned w64 down (is_within _ {N = 4096} (omega (arith, inside.bottom, last_y_near s accepted))) tt

  abbrev level_read : Operand
  level_read = returned w64 (ap (λ r. get_or r 0 (pos 0)) is) (is_within _ {N = 2 ^ 20} (le_of_lt (level_below _ _ _ accepted inside))) tt

  abbrev tilt_x_read : Operand
  tilt_x_read = returned w64 (ap (λ r. get_or r 1 (pos 0)) is) (is_within _ {N = 2 ^ 27} (le_of_lt (tilts_below _ _ _ accepted inside).0)) tt

  abbrev tilt_y_read : Operand
  tilt_y_read = returned w64 (ap (λ r. get_or r 2 (pos 0)) is) (is_within _ {N = 2 ^ 27} (le_of_lt (tilts_below _ _ _ accepted inside).1)) tt

  handed_on : line (x_read.read ∷ y_read.read ∷ level_read.read ∷ tilt_x_read.read ∷ tilt_y_read.read ∷ []) ≡ pixel_line s x y
  unfolding pixel_line
  handed_on = λ t. line (x_read.reads t ∷ y_read.reads t ∷ level_read.reads t ∷ tilt_x_read.reads t ∷ tilt_y_read.reads t ∷ [])

pub line-requires : goal.line-requires
line-requires c =
    let a = c.args.spot in
    (search rules, rw (handed_on _ _ _ a.sheet.accepted a.inside c.from.ensures c.from-2.ensures c.level_and_tilt.ensures) (omega (arith, line_fits _ _ _ a.sheet.accepted a.inside, c.requires)))

pub returns-clause-end : goal.returns-clause-end
returns-clause-end c =
    let a = c.args.spot in
    c.line.ensures.end ∙ ap (λ b. c.args.at + length b) (handed_on _ _ _ a.sheet.accepted a.inside c.from.ensures c.from-2.ensures c.level_and_tilt.ensures)

pub returns-clause-text : goal.returns-clause-text
returns-clause-text c =
    let a = c.args.spot in
    c.line.ensures.text ∙ ap (λ b. replaced c.args.out.now c.args.at b) (handed_on _ _ _ a.sheet.accepted a.inside c.from.ensures c.from-2.ensures c.level_and_tilt.ensures)
