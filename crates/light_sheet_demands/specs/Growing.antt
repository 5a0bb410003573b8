-- 02's request #103, "Row buffer out of the filler", sentence by sentence: the steps of a run; what its worker leaves, for every budget of steps; what
-- `fill_run` and `lvs_fill_run` leave; and the rows between. Assumes nothing.
use Rattle.std.specs.Prelude.{ℕ, suc, ◌+◌, ◌-◌, ◌≤◌, ◌<◌, ◌≡◌, List, ℤ, pos, length, get_or, set}
use Rattle.integers.specs.Stepwise.{step, steps, Underway}
use Rattle.element_readings.specs.Reading.{rounded}
use Rattle.sheet_calls.specs.WellFormed.{OnMesh}
use Rattle.surface_of_sheet.specs.Run.{slot_level, after_steps, begun}
use Rattle.light_sheet_demands.specs.CallRecords.{FillRun, RunSteps}
use Rattle.light_sheet_demands.specs.Demands.{pixel_jet}

-- what is shown of the row after k steps of the run from (x, y): it was `row`, and is row'
pub record AfterSteps (s : List ℕ) (x y : ℕ) (row : List ℤ) (k : ℕ) (row' : List ℤ) : Type 0 where
  pub size : length row' ≡ length row
  -- "the row's first k places hold their levels"
  pub levels : (j : ℕ) → j < k → get_or row' j (pos 0) ≡ rounded (pixel_jet s (x + j) y).height
  -- "and the others what they held"
  pub others : (j : ℕ) → k ≤ j → (z : ℤ) → get_or row' j z ≡ get_or row j z

pub record RowGrows : Type 0 where
  -- "steps of one place each", whatever program makes them: step k sets slot k to the level of the pixel k to the right, and touches no other slot. With no
  -- step made the row is as it was, and one step more is one store more
  pub store : (s : List ℕ) (x y k : ℕ) (row : List ℤ) → step (slot_level s x y) k row ≡ set row k (rounded (pixel_jet s (x + k) y).height)
  pub none : (s : List ℕ) (x y : ℕ) (row : List ℤ) → after_steps s x y 0 row ≡ row
  pub one_more : (s : List ℕ) (x y k : ℕ) (row : List ℤ) → after_steps s x y (suc k) row ≡ step (slot_level s x y) k (after_steps s x y k row)
  -- "Show that after k steps of one place each, for every k up to the run's length, the row's first k places hold their levels and the others what they held."
  pub after : (s : List ℕ) (x y k : ℕ) (row : List ℤ) → k ≤ length row → AfterSteps s x y row k (after_steps s x y k row)
  pub is_begun : (s : List ℕ) (x y k : ℕ) (row : List ℤ) → k ≤ length row → after_steps s x y k row ≡ begun s x y k row
  -- the worker leaves that row for every budget of steps; what a longer budget leaves is what a shorter one leaves, stepped on from there. Of a run that is not
  -- refused every k up to its length is a budget that the worker takes
  pub worker : {s t : List ℕ} {x y k : ℕ} {row row' : List ℤ} → RunSteps s x y row k row' t → k ≤ length row → AfterSteps s x y row k row'
  pub longer : {s t u : List ℕ} {x y n k : ℕ} {row shorter row' : List ℤ} → n ≤ k → RunSteps s x y row n shorter t → RunSteps s x y row k row' u →
      row' ≡ steps (slot_level s x y) n (k - n) shorter
  pub budgets : {s t : List ℕ} {x y : ℕ} {row row' : List ℤ} → FillRun s x y row 0 row' t → (k : ℕ) → k ≤ length row → OnMesh s x y k
  -- a call that is not refused makes a step for each slot: for every k, what it leaves is the row after k steps, stepped on from there. Refused, it makes none
  pub made : {s t : List ℕ} {x y : ℕ} {row row' : List ℤ} → FillRun s x y row 0 row' t → row' ≡ after_steps s x y (length row) row
  pub through : {s t : List ℕ} {x y : ℕ} {row row' : List ℤ} → FillRun s x y row 0 row' t → (k : ℕ) → k ≤ length row →
      row' ≡ steps (slot_level s x y) k (length row - k) (after_steps s x y k row)
  pub refused : {s t : List ℕ} {x y n : ℕ} {row row' : List ℤ} → FillRun s x y row n row' t → ¬ (n ≡ 0) → row' ≡ row
  -- A contract speaks of a call's start and end. Of the rows between: a run stores in one line of the code, in the loop of `element_levels::fill_levels`. At
  -- each turn this loop, and that of `surface_runs::run` around it, is `Underway`, which is its invariant. Started with the row after n steps of the run, and
  -- having set k slots to what they are to hold, it has the row after n + k. That the compiled library goes through these rows alone is watched (tests/grows)
  pub between : (s : List ℕ) (x y n count k : ℕ) (f : ℕ → ℤ) (row row' : List ℤ) → Underway f n count (after_steps s x y n row) row' k →
      ((j : ℕ) → j < k → f (n + j) ≡ slot_level s x y (n + j)) → n + k ≤ length row → (row' ≡ after_steps s x y (n + k) row) × AfterSteps s x y row (n + k) row'
  -- "Drop that temporary buffer and write straight to the caller's row." No contract can say it: `surface_filling::fill_run` hands the row that it is lent to
  -- the worker, and a run has too little stack for a row of its own (tests/stack)
  -- "All outcomes are the same as before.": `FillRun`, `filled` and `run_refusal` are what they were, word for word
