-- The numbers that pooling looks at, and what those say that are its own. Assumes nothing.
use Prim.Native.Nat.{ℕ, ◌<◌}
use mathlib.Core.Path.{◌≡◌, refl}
use mathlib.Core.Logic.Iff
use mathlib.Core.Logic.{◌↔◌}
use mathlib.Core.List.{List, [], ◌∷◌, map}
use mathlib.Core.Bool.{false}
use lib.ListN.{length}
use Rattle.sheet_layout.specs.Format.{columns, rows, line_x, line_y}
use Rattle.sheet_layout.specs.SameLines.{SameLines}
use Rattle.sheet_layout.proofs.Meaning.{not_fails, or_fails, eqb_holds}
use Rattle.sheet_layout.proofs.Some.{some_fails}
use Rattle.sheet_calls.specs.Refusals.{Accepted, sheet_rules, sheet_refusal}
use Rattle.sheet_calls.specs.WellFormed.{InRange}
use Rattle.sheet_calls.proofs.Chains.{accepted_is}
use Rattle.sheet_calls.proofs.Conditions.{condition_laws}
use Rattle.sheet_pool.specs.Pool.{pooled_node, second_refused, other_along, other_lines, other_target, some_sum_out, pool_rules}

pub numbers : map (λ r. r.number) pool_rules ≡ 1 ∷ 2 ∷ 3 ∷ 4 ∷ 5 ∷ 6 ∷ 15 ∷ 16 ∷ 17 ∷ 11 ∷ []
unfolding pool_rules sheet_rules
numbers = refl

pub fifteen : (b : List ℕ) → (second_refused b ≡ false) ↔ Accepted b
unfolding second_refused
fifteen b = Iff.trans (not_fails (eqb_holds (sheet_refusal b) 0)) (accepted_is b)

along : (line : ℕ → ℕ) (n : ℕ) (line' : ℕ → ℕ) (m : ℕ) →
    (other_along line n line' m ≡ false) ↔ ((m ≡ n) × ((k : ℕ) → k < n → line' k ≡ line k))
unfolding other_along
along line n line' m = or_fails (not_fails (eqb_holds m n)) (some_fails n (λ k. not_fails (eqb_holds (line' k) (line k))))

pub sixteen : (a b : List ℕ) → (other_lines a b ≡ false) ↔ SameLines a b
unfolding other_lines
sixteen a b = Iff.trans (or_fails (along (line_x a) (columns a) (line_x b) (columns b)) (along (line_y a) (rows a) (line_y b) (rows b))) (
  λ h. record { same_columns = h.0.0; same_rows = h.1.0; same_x = h.0.1; same_y = h.1.1 },
  λ h. ((h.same_columns, h.same_x), (h.same_rows, h.same_y)),
)

pub seventeen : (a : List ℕ) (n : ℕ) → (other_target a n ≡ false) ↔ (n ≡ length a)
unfolding other_target
seventeen a n = not_fails (eqb_holds n (length a))

pub eleven : (a b : List ℕ) → (some_sum_out a b ≡ false) ↔ ((j : ℕ) → j < rows a → (i : ℕ) → i < columns a → InRange (pooled_node a b i j))
unfolding some_sum_out
eleven a b = some_fails (rows a) (λ j. some_fails (columns a) (λ i. condition_laws.eleven (pooled_node a b i j)))
