-- 02's #103, from the laws of steps and of runs. Assumes nothing.
use Prim.Native.Nat.{ℕ, suc, ◌+◌, ◌-◌, ◌≤◌, ◌<◌}
use mathlib.Core.Path.{◌≡◌, refl, sym, ◌∙◌, ap}
use mathlib.Core.List.{List}
use native.Mathlib.Nat.{zero-add}
use native.Mathlib.Omega.{arith}
use lib.IntN.{ℤ, pos}
use lib.ListN.{length, set}
use Rattle.integers.specs.Stepwise.{step, steps, Underway}
use Rattle.integers.proofs.Stepwise.{steps_same, stepwise_laws}
use Rattle.element_readings.specs.Reading.{level_of, rounded}
use Rattle.sheet_calls.proofs.Chains.{run_held}
use Rattle.surface_of_sheet.specs.Surface.{level_at, level}
use Rattle.surface_of_sheet.specs.Run.{slot_level, after_steps}
use Rattle.surface_of_sheet.proofs.Runs.{filled_steps, run_laws}
use Rattle.light_sheet_demands.specs.CallRecords.{FillRun}
use Rattle.light_sheet_demands.specs.Demands.{pixel_jet}
use Rattle.light_sheet_demands.specs.Growing.{AfterSteps, RowGrows}

-- what a slot is to hold is the height of the element, rounded
slot_is : (s : List ℕ) (x y k : ℕ) → slot_level s x y k ≡ rounded (pixel_jet s (x + k) y).height
unfolding slot_level level level_at level_of
slot_is s x y k = refl

module _ (s : List ℕ) (x y : ℕ) where
  after : (k : ℕ) (row : List ℤ) → k ≤ length row → AfterSteps s x y row k (after_steps s x y k row)
  after k row h = record {
    size = stepwise_laws.size _ _ _ _;
    levels = λ j l. stepwise_laws.done (slot_level s x y) 0 k row j (omega arith) (omega (arith, l)) (omega (arith, h, l)) (pos 0) ∙ slot_is s x y j;
    others = λ j l. stepwise_laws.behind (slot_level s x y) 0 k row j (omega (arith, l));
  }

  one_more_lem : (k : ℕ) (row : List ℤ) → after_steps s x y (suc k) row ≡ step (slot_level s x y) k (after_steps s x y k row)
  unfolding step
  one_more_lem k row = stepwise_laws.one_more (slot_level s x y) 0 k row ∙ ap (λ n. step (slot_level s x y) n (after_steps s x y k row)) (zero-add k)

  -- n steps, and m from there on
  on : (n m : ℕ) (row : List ℤ) → after_steps s x y (n + m) row ≡ steps (slot_level s x y) n m (after_steps s x y n row)
  on n m row = stepwise_laws.through (slot_level s x y) 0 n m row ∙ ap (λ k. steps (slot_level s x y) k m (after_steps s x y n row)) (zero-add n)

  through : (n k : ℕ) (row : List ℤ) → n ≤ k → after_steps s x y k row ≡ steps (slot_level s x y) n (k - n) (after_steps s x y n row)
  through n k row h = ap (λ j. after_steps s x y j row) (omega (arith, h)) ∙ on n (k - n) row

  -- a loop that started with the row after n steps has, k of its own further, that after n + k
  further : {n count k : ℕ} {f : ℕ → ℤ} {row' : List ℤ} (row : List ℤ) → Underway f n count (after_steps s x y n row) row' k →
      ((j : ℕ) → j < k → f (n + j) ≡ slot_level s x y (n + j)) → row' ≡ after_steps s x y (n + k) row
  further {n = n} {k = k} {f = f} row u e = u.grown ∙ steps_same f (slot_level s x y) n k _ e ∙ sym (on n k row)

  -- a run that is not refused makes a step for each slot
  made : {t : List ℕ} {row row' : List ℤ} → FillRun s x y row 0 row' t → row' ≡ after_steps s x y (length row) row
  made c = c.levels ∙ filled_steps s x y _ (sym c.answer)

pub row_grows : RowGrows
unfolding step
row_grows = record {
  store = λ s x y k row. ap (set row k) (slot_is s x y k);
  none = λ s x y row. stepwise_laws.none (slot_level s x y) 0 row;
  one_more = one_more_lem;
  after = after;
  is_begun = run_laws.is_begun;
  worker = λ c h. rw c.levels (after _ _ _ _ _ h);
  longer = λ {s} {t} {u} {x} {y} {n} {k} {row} h c d. d.levels ∙ through s x y n k row h ∙ ap (steps (slot_level s x y) n (k - n)) (sym c.levels);
  budgets = λ {s} {t} {x} {y} {row} c k h. let all = run_held s x y (length row) (sym c.answer) in record {
    accepted = all.accepted;
    first = all.first;
    each = λ j l. all.each j (omega (arith, l, h));
  };
  made = made _ _ _;
  through = λ {s} {t} {x} {y} {row} c k h. made s x y c ∙ through s x y k (length row) row h;
  refused = λ {s} {t} {x} {y} {n} {row} c h. c.levels ∙ run_laws.refused s x y row (λ z. h (c.answer ∙ z));
  between = λ s x y n count k f row row' u e h. let there = further s x y row u e in (there, rw there (after s x y (n + k) row h));
}
