-- What pooling answers, from what the code finds. Assumes nothing.
use Rattle.std.proofs.Common.{◌≡◌, ℕ, List, cond, refl, sym, ◌∙◌}
use borrow.Author.Tests.{ne_eqb}
use Rattle.sheet_calls.specs.Refusals.{sheet_refusal}
use Rattle.sheet_calls.proofs.Chains.{accepts, sheet_taken}
use Rattle.sheet_pool.specs.Pool.{second_refused, other_lines, other_target, some_sum_out, pool_refusal}
use Rattle.sheet_pool.proofs.Chain.{pool_is}
use Rattle.sheet_pool.proofs.Conditions.{fifteen}

-- where the first sheet is accepted, and the second is not
pub second_refused_lem : (a b : List ℕ) (n : ℕ) → 0 ≡ sheet_refusal a → ¬ (sheet_refusal b ≡ 0) → pool_refusal a b n ≡ 15
unfolding second_refused
second_refused_lem a b n e k = pool_is a b n ∙ sheet_taken (accepts (sym e)) ∙ rw (ne_eqb (sheet_refusal b) 0 k) refl

-- where both are
pub both_accepted : (a b : List ℕ) (n : ℕ) → 0 ≡ sheet_refusal a → 0 ≡ sheet_refusal b
    → pool_refusal a b n ≡ cond (other_lines a b) 16 (cond (other_target a n) 17 (cond (some_sum_out a b) 11 0))
both_accepted a b n e f = pool_is a b n ∙ sheet_taken (accepts (sym e)) ∙ rw ((fifteen b).1 (accepts (sym f))) refl
