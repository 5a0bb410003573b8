-- What a run leaves: the row as it was where it is refused, else in each slot the level of its pixel. Assumes nothing.
use Prim.Native.Nat.{ℕ, zero, suc, ◌+◌, ◌≤◌, ◌<◌}
use mathlib.Core.Path.{◌≡◌, refl, sym, ◌∙◌, ap}
use mathlib.Core.List.{List, [], ◌∷◌, append-nil}
use native.Mathlib.Decide.{ℕ_discrete}
use native.Mathlib.Nat.{add-zero, zero-add, add-suc, suc-add}
use native.Mathlib.Omega.{arith}
use lib.IntN.{ℤ, pos}
use lib.ListN.{length, get_or, set}
use lib.Seq.{drop-length}
use borrow.Author.Tests.{eq-eqb, ne_eqb}
use Rattle.integers.specs.Stepwise.{step, steps}
use Rattle.integers.proofs.InOrder.{size_of, place_of}
use Rattle.sheet_calls.specs.Refusals.{run_refusal}
use Rattle.sheet_calls.proofs.Chains.{run_held, run_taken_lem}
use Rattle.surface_of_sheet.specs.Surface.{level}
use Rattle.surface_of_sheet.specs.Run.{levels_along, slot_level, after_steps, begun, filled}
use Rattle.surface_of_sheet.specs.Theorems.{RunLaws}

-- one slot further along is the pixel one further to the right
next : (s : List ℕ) (x y k : ℕ) → level s (suc x + k) y ≡ level s (x + suc k) y
next s x y k = ap (λ n. level s n y) (suc-add x k ∙ sym (add-suc x k))

-- ---- the levels along a row

levels_length : (s : List ℕ) (x y count : ℕ) → length (levels_along s x y count) ≡ count
unfolding levels_along
levels_length s x y = size_of (λ i. level s i y) (λ i n. levels_along s i y n) (λ i. refl) (λ i n. refl) x

pub levels_at : (s : List ℕ) (x y count k : ℕ) → k < count → get_or (levels_along s x y count) k (pos 0) ≡ level s (x + k) y
unfolding levels_along
levels_at s x y count k h = place_of (λ i. level s i y) (λ i n. levels_along s i y n) (λ i. refl) (λ i n. refl) x count k h (pos 0)

-- ---- a row of which some slots are done

none_done : (s : List ℕ) (x y : ℕ) (row : List ℤ) → begun s x y 0 row ≡ row
unfolding levels_along begun
none_done s x y row = refl

one_more_lem : (s : List ℕ) (x y k : ℕ) (row : List ℤ) → k < length row → begun s x y (suc k) row ≡ set (begun s x y k row) k (level s (x + k) y)
unfolding levels_along begun
one_more_lem s x y k [] h = absurd (omega (arith, h))
one_more_lem s x y zero (z ∷ row) h = rw (add-zero x) refl
one_more_lem s x y (suc k) (z ∷ row) h =
    ap (λ (r : List ℤ). level s x y ∷ r) (one_more_lem s (suc x) y k row (omega (arith, h)) ∙ ap (set (begun s (suc x) y k row) k) (next s x y k))

all_done : (s : List ℕ) (x y : ℕ) (row : List ℤ) → begun s x y (length row) row ≡ levels_along s x y (length row)
unfolding begun
all_done s x y row = rw (drop-length row) (append-nil (levels_along s x y (length row)))

-- after k steps k slots are done
steps_begun : (s : List ℕ) (x y k : ℕ) (row : List ℤ) → k ≤ length row → after_steps s x y k row ≡ begun s x y k row
unfolding step steps slot_level
steps_begun s x y zero row h = sym (none_done s x y row)
steps_begun s x y (suc k) row h =
    (λ t. step (slot_level s x y) (zero-add k t) (steps_begun s x y k row (omega (arith, h)) t)) ∙ sym (one_more_lem s x y k row h)

-- ---- the row of a run

module _ (s : List ℕ) (x y : ℕ) (row : List ℤ) where
  filled_is : run_refusal s x y (length row) ≡ 0 → filled s x y row ≡ levels_along s x y (length row)
  unfolding filled
  filled_is e = rw (eq-eqb _ 0 e) refl

  -- it is the row after a step for each slot
  pub filled_steps : run_refusal s x y (length row) ≡ 0 → filled s x y row ≡ after_steps s x y (length row) row
  filled_steps e = filled_is e ∙ sym (steps_begun s x y (length row) row (omega arith) ∙ all_done s x y row)

  pub unfilled_is : ¬ (run_refusal s x y (length row) ≡ 0) → filled s x y row ≡ row
  unfolding filled
  unfilled_is h = rw (ne_eqb _ 0 h) refl

  size : length (filled s x y row) ≡ length row
  size =
      elim (ℕ_discrete (run_refusal s x y (length row)) 0) [
        | yes e ↦ rw (filled_is e) (levels_length s x y (length row))
        | no h ↦ rw (unfilled_is h) refl
      ]

pub run_laws : RunLaws
run_laws = record {
  size = size;
  refused = unfilled_is;
  accepted = λ s x y count e. (run_held s x y count e).accepted;
  inside = λ s x y count e. (run_held s x y count e).each;
  levels = λ s x y row e k l. rw (filled_is s x y row e) (levels_at s x y (length row) k l);
  taken = run_taken_lem;
  none = none_done;
  one_more = one_more_lem;
  all = all_done;
  is_begun = steps_begun;
}
