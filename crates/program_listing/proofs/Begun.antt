-- A row's text pixel by pixel: what is written when the pixels left of x are done, and that there is room for all. Assumes nothing.
use Prim.Native.Nat.{ℕ, suc, ◌+◌, ◌*◌, ◌-◌, ◌≤◌, ◌<◌}
use mathlib.Core.Path.{◌≡◌, refl, ◌∙◌, ap, subst, subst⁻¹}
use mathlib.Core.List.{List, ◌++◌}
use native.Mathlib.Omega.{arith}
use lib.ListN.{length}
use Rattle.sheet_words.proofs.Replaced.{replaced_length}
use Rattle.sheet_calls.specs.WellFormed.{Inside}
use Rattle.surface_of_sheet.proofs.Cells.{last_x_near}
use Rattle.program_text.proofs.Written.{Written, both_written}
use Rattle.program_listing.specs.Listing.{sequence, first_x, last_x, OnRow, pixel_line, row_text, line_room, row_room}
use Rattle.program_listing.proofs.Lengths.{first_inside, line_fits, line_some}
use Rattle.program_listing.proofs.Sequence.{sequence_length, sequence_some}

-- the lines of the pixels left of x
abbrev until : List ℕ → ℕ → ℕ → List ℕ
until s y x = sequence (λ k. pixel_line s (first_x s + k) y) (x - first_x s)

until_more : (s : List ℕ) (y x : ℕ) → first_x s ≤ x → until s y (x + 1) ≡ until s y x ++ pixel_line s x y
unfolding sequence
until_more s y x h =
    let next : x + 1 - first_x s ≡ suc (x - first_x s) = omega arith in
    let there : first_x s + (x - first_x s) ≡ x = omega arith in
    rw next (ap (λ k. until s y x ++ pixel_line s k y) there)

-- out is the row's buffer when the pixels left of x are done, and `end` the index behind their lines
pub record Begun (s : List ℕ) (y : ℕ) (buffer : List ℕ) (x : ℕ) (out : List ℕ) (end : ℕ) : Type 0 where
  pub from : first_x s ≤ x
  pub to : x ≤ last_x s + 1
  pub written : Written buffer 0 (until s y x) out end

module _ (s : List ℕ) (y : ℕ) (row : OnRow s y) where
  on_row : (x : ℕ) → first_x s ≤ x → x ≤ last_x s → Inside s x y
  on_row x h l = record { left = h; right = l; top = row.top; bottom = row.bottom }

  x_in_order : first_x s ≤ last_x s
  x_in_order = (first_inside s row.accepted).right

  until_fits : (x : ℕ) → x ≤ last_x s + 1 → length (until s y x) ≤ line_room * (x - first_x s)
  until_fits x h =
      sequence_length (λ k. pixel_line s (first_x s + k) y) line_room (x - first_x s)
      (λ k l. line_fits s (first_x s + k) y row.accepted (on_row (first_x s + k) (omega arith) (omega arith)))

  pub row_some : 0 < length (row_text s y)
  unfolding row_text
  row_some = sequence_some (λ k. pixel_line s (first_x s + k) y) (last_x s + 1 - first_x s) (omega (arith, x_in_order)) (λ k l. line_some s (first_x s + k) y)

  pub starts : (buffer : List ℕ) → Begun s y buffer (first_x s) buffer 0
  unfolding sequence
  starts buffer =
      let none : first_x s - first_x s ≡ 0 = omega arith in
      record { from = omega arith; to = omega (arith, x_in_order); written = rw none (refl, refl) }

  module _ (buffer : List ℕ) (room : row_room ≤ length buffer) {x : ℕ} {out : List ℕ} {end : ℕ} (begun : Begun s y buffer x out end) where
    length_kept : length out ≡ length buffer
    length_kept = ap length begun.written.1 ∙ replaced_length buffer 0 (until s y x) (omega (arith, until_fits x begun.to, last_x_near s row.accepted))

    -- there is room for the line of pixel x
    pub line_room_lem : x ≤ last_x s → end + line_room ≤ length out
    line_room_lem h = omega (arith, begun.written.0, length_kept, until_fits x begun.to, last_x_near s row.accepted)

    pub goes_on : x ≤ last_x s → {next : List ℕ} {after : ℕ} → Written out end (pixel_line s x y) next after → Begun s y buffer (x + 1) next after
    goes_on h {next} {after} w =
        let more = until_more s y x begun.from in
        let fits = subst (λ b. 0 + length b ≤ length buffer) more (omega (arith, until_fits (x + 1) (omega arith), last_x_near s row.accepted)) in
        record {
          from = omega (arith, begun.from);
          to = omega arith;
          written = subst⁻¹ (λ b. Written buffer 0 b next after) more (both_written buffer 0 (until s y x) (pixel_line s x y) fits begun.written w);
        }

pub done : {s : List ℕ} {x y : ℕ} {buffer out : List ℕ} {end : ℕ} → Begun s y buffer x out end → last_x s < x → Written buffer 0 (row_text s y) out end
unfolding row_text
done {s} {x} begun h = let last : x ≡ last_x s + 1 = omega (arith, begun.to) in rw (← last) begun.written
