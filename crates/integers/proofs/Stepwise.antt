-- A row that is filled step by step: steps by functions that agree, steps behind steps, single slots, and what a loop of steps needs. Assumes nothing.
use Prim.Native.Nat.{ℕ, zero, suc, ◌+◌, ◌-◌, ◌≤◌, ◌<◌}
use mathlib.Core.Path.{◌≡◌, refl, sym, ◌∙◌, ap}
use mathlib.Core.List.{List}
use native.Mathlib.Decide.{dec_lt}
use native.Mathlib.Nat.{add-zero, add-suc, add_assoc}
use native.Mathlib.Numerals.{add-one}
use native.Mathlib.Omega.{arith}
use lib.IntN.{ℤ}
use lib.ListN.{length, get_or, set, length-set}
use lib.Seq.{get_or-set_same, get_or-set_other}
use Rattle.integers.specs.Stepwise.{step, steps, starting_at, Underway, StepwiseLaws}

pub steps_length : (f : ℕ → ℤ) (from count : ℕ) (row : List ℤ) → length (steps f from count row) ≡ length row
unfolding step steps
steps_length f from zero row = refl
steps_length f from (suc k) row = length-set (steps f from k row) (from + k) (f (from + k)) ∙ steps_length f from k row

-- by functions that agree as far as the steps go
pub steps_same : (f g : ℕ → ℤ) (from count : ℕ) (row : List ℤ) → ((k : ℕ) → k < count → f (from + k) ≡ g (from + k)) → steps f from count row ≡ steps g from count row
unfolding step steps
steps_same f g from zero row e = refl
steps_same f g from (suc k) row e = λ t. set (steps_same f g from k row (λ j h. e j (omega arith)) t) (from + k) (e k (omega arith) t)

-- n steps, and m behind them
steps_through : (f : ℕ → ℤ) (from n m : ℕ) (row : List ℤ) → steps f from (n + m) row ≡ steps f (from + n) m (steps f from n row)
unfolding step steps
steps_through f from n zero row = ap (λ k. steps f from k row) (add-zero n)
steps_through f from n (suc m) row = ap (λ k. steps f from k row) (add-suc n m) ∙ (λ t. step f (sym (add_assoc from n m) t) (steps_through f from n m row t))

-- ---- single slots

-- a slot that no step has set, and one that has had its step
untouched : (f : ℕ → ℤ) (from count : ℕ) (row : List ℤ) (k : ℕ) → ((j : ℕ) → j < count → ¬ (k ≡ from + j)) → (z : ℤ) → get_or (steps f from count row) k z ≡ get_or row k z
unfolding step steps
untouched f from zero row k h z = refl
untouched f from (suc n) row k h z =
    get_or-set_other (steps f from n row) (from + n) k (f (from + n)) z (h n (omega arith)) ∙ untouched f from n row k (λ j l. h j (omega arith)) z

slot_done : (f : ℕ → ℤ) (from count : ℕ) (row : List ℤ) (k : ℕ) → from ≤ k → k < from + count → k < length row → (z : ℤ) → get_or (steps f from count row) k z ≡ f k
unfolding step steps
slot_done f from zero row k low high fits z = absurd (omega (arith, low, high))
slot_done f from (suc n) row k low high fits z = elim (dec_lt k (from + n)) [
  | yes h ↦ get_or-set_other (steps f from n row) (from + n) k (f (from + n)) z (λ e. absurd (omega (arith, h, e))) ∙ slot_done f from n row k low h fits z
  | no h ↦ let last : from + n ≡ k = omega (arith, high, h) in
      rw last (get_or-set_same (steps f from n row) k (f k) z (rw (steps_length f from n row) fits))
]

-- ---- a function moved to start at a slot

pub starting_at_lem : (slot : ℕ) (f : ℕ → ℤ) (k : ℕ) → starting_at slot f (slot + k) ≡ f k
unfolding starting_at
starting_at_lem slot f k = let back : slot + k - slot ≡ k = omega arith in ap f back

-- n steps from that slot on, and m behind them, by a function that goes on where the first stops
pub starting_more : (f g : ℕ → ℤ) (slot n m : ℕ) (row : List ℤ) {now next : List ℤ} → now ≡ steps (starting_at slot f) slot n row
    → next ≡ steps (starting_at (slot + n) g) (slot + n) m now → ((k : ℕ) → k < m → g k ≡ f (n + k)) → next ≡ steps (starting_at slot f) slot (n + m) row
starting_more f g slot n m row e h same =
    h ∙ steps_same (starting_at (slot + n) g) (starting_at slot f) (slot + n) m _ (λ k l. starting_at_lem (slot + n) g k ∙ same k l ∙ sym (starting_at_lem slot f (n + k)) ∙ ap (starting_at slot f) (sym (add_assoc slot n k)))
    ∙ (λ t. steps (starting_at slot f) (slot + n) m (e t)) ∙ sym (steps_through (starting_at slot f) slot n m row)

-- ---- a loop of steps: before the first turn, a turn further, and after the last

module _ {f : ℕ → ℤ} {from count : ℕ} {row₀ : List ℤ} where
  pub begins : Underway f from count row₀ row₀ 0
  unfolding steps
  begins = record { most = omega arith; grown = refl }

  module _ {row : List ℤ} {k : ℕ} (u : Underway f from count row₀ row k) where
    pub same_length : length row ≡ length row₀
    same_length = ap length u.grown ∙ steps_length f from k row₀

    -- one step more, or several
    pub goes_on : k < count → {z : ℤ} → z ≡ f (from + k) → Underway f from count row₀ (set row (from + k) z) (k + 1)
    unfolding step steps
    goes_on h e = record { most = omega (arith, h); grown = (λ t. set (u.grown t) (from + k) (e t)) ∙ ap (λ n. steps f from n row₀) (sym (add-one k)) }

    pub goes_far : {next : List ℤ} {n : ℕ} → k ≤ n → n ≤ count → next ≡ steps f (from + k) (n - k) row → Underway f from count row₀ next n
    goes_far {n = n} h l e = record {
      most = l;
      grown = e ∙ (λ t. steps f (from + k) (n - k) (u.grown t)) ∙ sym (steps_through f from k (n - k) row₀) ∙ (let whole : k + (n - k) ≡ n = omega (arith, h) in ap (λ m. steps f from m row₀) whole);
    }

    pub all_made : count ≤ k → row ≡ steps f from count row₀
    all_made h = u.grown ∙ ap (λ n. steps f from n row₀) (omega (arith, u.most, h))

pub stepwise_laws : StepwiseLaws
unfolding step steps
stepwise_laws = record {
  size = steps_length;
  none = λ f from row. refl;
  one_more = λ f from k row. refl;
  through = steps_through;
  done = slot_done;
  before = λ f from count row k h. untouched f from count row k (λ j l e. absurd (omega (arith, h, e)));
  behind = λ f from count row k h. untouched f from count row k (λ j l e. absurd (omega (arith, h, l, e)));
}
