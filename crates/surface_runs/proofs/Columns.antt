-- How far a run goes in the column of cells that it has come to: all its pixels up to there lie in this column, and the next one in the next. Assumes nothing.
use Prim.Native.Nat.{ℕ, suc, ◌+◌, ◌-◌, ◌≤◌, ◌<◌, min}
use mathlib.Core.Path.{◌≡◌}
use mathlib.Core.List.{List}
use native.Mathlib.Decide.{ℕ_discrete, dec_lt}
use native.Mathlib.Nat.{le_antisymm}
use native.Mathlib.Omega.{arith}
use borrow.Author.Tests.{eq-eqb, ne_eqb}
use Rattle.sheet_layout.specs.Format.{columns, line_x}
use Rattle.surface_of_sheet.specs.Place.{HasCell, column_at}
use Rattle.surface_of_sheet.proofs.Along.{along_starts, along_last, along_in, axis_cell, axis_ends}
use Rattle.surface_of_sheet.proofs.Cells.{sound, x_rising, last_x_near}
use Rattle.surface_runs.specs.Strips.{done_in, AtColumn}
use Rattle.surface_runs.specs.declared.Strip.{Strip}

module _ {s : List ℕ} {t : Strip} {x count done column : ℕ} (at : AtColumn s t x count done column) where
  -- no pixel of a run lies beyond the last line
  pub run_near : x + count ≤ 4097
  run_near = omega (arith, at.on.to, last_x_near s at.on.accepted)

  -- both lines of the column are lines of the sheet
  column_there : suc column < columns s
  unfolding column_at
  column_there = rw at.here (axis_cell (line_x s) (sound s at.on.accepted).few_columns (x + done))

  pub strip_cell : HasCell s column t.row
  strip_cell = record { column = column_there; row = at.on.row }

  -- the pixel lies between them
  pub column_starts : line_x s column ≤ x + done
  unfolding column_at
  column_starts = rw at.here (along_starts (line_x s) (x + done) (columns s - 2) (omega (arith, at.on.from)))

  pub column_ends : x + done ≤ line_x s (suc column)
  unfolding column_at
  column_ends = rw at.here (axis_ends (line_x s) (sound s at.on.accepted).few_columns (x + done) (omega (arith, at.on.to)))

  -- before the second, where it is not the last
  before_next : ¬ (column + 2 ≡ columns s) → x + done < line_x s (suc column)
  unfolding column_at
  before_next inner = elim (dec_lt (x + done) (line_x s (suc column))) [
    | yes h ↦ h
    | no h ↦ absurd (let late : suc column ≤ column_at s (x + done) = along_last (line_x s) (x + done) (columns s - 2) (suc column) (omega (arith, column_there, inner)) (omega arith) in omega (arith, at.here))
  ]

  -- the run's first e pixels are those up to the end of this column, or all
  pub record Ends (e : ℕ) : Type 0 where
    pub further : done < e
    pub most : e ≤ count
    pub fits : x + e ≤ suc (line_x s (suc column))
    pub same : (k : ℕ) → done + k < e → column_at s (x + (done + k)) ≡ column
    pub next : e < count → column_at s (x + e) ≡ suc column

  -- in the last column, all
  ends_last : column + 2 ≡ columns s → Ends count
  unfolding column_at
  ends_last last = let last_Line : columns s - 1 ≡ suc column = omega arith in record {
    further = at.more;
    most = omega arith;
    fits = rw (← last_Line) at.on.to;
    same = λ k l. le_antisymm
        (let there = axis_cell (line_x s) (sound s at.on.accepted).few_columns (x + (done + k)) in omega arith)
        (along_last (line_x s) (x + (done + k)) (columns s - 2) column (omega (arith, column_there)) (omega (arith, column_starts)));
    next = λ l. absurd (omega arith);
  }

  -- in another, those before the next line
  ends_inner : ¬ (column + 2 ≡ columns s) → (e : ℕ) → done < e → e ≤ count → x + e ≤ line_x s (suc column) → (e < count → x + e ≡ line_x s (suc column)) → Ends e
  unfolding column_at
  ends_inner inner e further most within full = let there = column_there in let rising = x_rising s at.on.accepted in record {
    further = further;
    most = most;
    fits = omega arith;
    same = λ k l. along_in rising (x + (done + k)) (columns s - 2) column (omega arith) (omega arith) (omega (arith, column_starts)) (omega arith);
    next = λ l. let up = rising.rises (suc column) (omega (arith, inner)) in
        along_in rising (x + e) (columns s - 2) (suc column) (omega arith) (omega (arith, inner)) (omega (arith, full l)) (omega (arith, full l));
  }

  pub ends : Ends (done_in s x column count)
  unfolding done_in
  ends = elim (ℕ_discrete (column + 2) (columns s)) [
    | yes last ↦ rw (eq-eqb _ _ last) (ends_last last)
    | no inner ↦ let far = before_next inner in
        rw (ne_eqb _ _ inner) (ends_inner inner (min count (line_x s (suc column) - x)) (omega arith) (omega arith) (omega arith) (λ l. omega arith))
  ]
