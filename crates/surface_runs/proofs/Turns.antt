-- The turns of a run: it has made its first steps, and the next pixel lies in the column that it has come to. Assumes nothing.
use Prim.Native.Nat.{ℕ, suc, ◌+◌, ◌-◌, ◌≤◌, ◌<◌}
use mathlib.Core.Path.{◌≡◌, refl, sym, ◌∙◌, ap}
use mathlib.Core.List.{List}
use native.Mathlib.Decide.{dec_lt}
use native.Mathlib.Nat.{zero-add, add-zero}
use native.Mathlib.Numerals.{add-one}
use native.Mathlib.Omega.{arith}
use lib.IntN.{ℤ}
use Rattle.integers.specs.Stepwise.{steps, Underway}
use Rattle.integers.proofs.Stepwise.{begins, goes_far}
use Rattle.sheet_layout.specs.Format.{columns, line_x}
use Rattle.sheet_calls.specs.WellFormed.{OnMesh}
use Rattle.surface_of_sheet.specs.Place.{column_at, row_at, place}
use Rattle.surface_of_sheet.specs.Run.{slot_level}
use Rattle.surface_of_sheet.proofs.Cells.{sound}
use Rattle.surface_of_sheet.proofs.Places.{has_cell, there}
use Rattle.surface_runs.specs.Strips.{strip_at, strip_level, done_in, OnStrip}
use Rattle.surface_runs.proofs.Columns.{strip_cell, Ends, ends}
use Rattle.surface_runs.proofs.Levels.{slot_level_lem}

module _ (s : List ℕ) (x y count : ℕ) (mesh : OnMesh s x y count) where
  -- the last pixel of a run lies on the last line or before it
  to_last : x + count ≤ suc (line_x s (columns s - 1))
  to_last = elim (dec_lt 0 count) [
    | yes h ↦ let last = (mesh.each (count - 1) (omega arith)).right in omega arith
    | no h ↦ omega (arith, mesh.first.right)
  ]

  pub in_strip : OnStrip s (strip_at s y) x count
  unfolding strip_at row_at place
  in_strip = let t = there s mesh.accepted x y mesh.first in record {
    accepted = mesh.accepted;
    row = (has_cell s mesh.accepted x y).row;
    offset = omega (arith, t.to_bottom);
    height = refl;
    from = mesh.first.left;
    to = to_last;
  }

  module _ (row₀ : List ℤ) where
    -- a turn's start: the run is underway, and the next pixel lies in this column
    pub record Turn (row : List ℤ) (column done : ℕ) : Type 0 where
      pub underway : Underway (slot_level s x y) 0 count row₀ row done
      pub here : done < count → column ≡ column_at s (x + done)

    pub first_turn : Turn row₀ (column_at s x) 0
    first_turn = record { underway = begins; here = λ h. ap (column_at s) (sym (add-zero x)) }

    -- through one column
    module _ {row : List ℤ} {column done : ℕ} (u : Turn row column done) (more : done < count) {e : ℕ} (end : e ≡ done_in s x column count) where
      abbrev ended : Ends (record { on = in_strip; more = more; here = u.here more }) (done_in s x column count)
      ended = ends (record { on = in_strip; more = more; here = u.here more })

      pub column_near : column < 65
      column_near = let there = (strip_cell (record { on = in_strip; more = more; here = u.here more })).column in
          omega (arith, there, (sound s mesh.accepted).many_columns)

      pub further : done < e
      further = rw end ended.further

      pub next_turn : {next : List ℤ} → next ≡ steps (λ k. strip_level s (strip_at s y) (x + k)) done (e - done) row → Turn next (column + 1) e
      next_turn l = record {
        underway = goes_far u.underway (omega (arith, further)) (rw end ended.most) (l ∙ (λ j. steps (λ k. slot_level_lem s x y k j) (sym (zero-add done) j) (e - done) row));
        here = λ h. add-one column ∙ sym (ended.next (rw (← end) h)) ∙ ap (λ (n : ℕ). column_at s (x + n)) (sym end);
      }
