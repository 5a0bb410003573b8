-- When pooling is refused: as its first sheet is, then by 15, 16, 17 and 11; and what it leaves then, and otherwise. Assumes nothing.
use Prim.Native.Nat.{ℕ, ◌<◌}
use mathlib.Core.Path.{◌≡◌, refl, sym, ◌∙◌}
use mathlib.Core.List.{List}
use mathlib.Core.Bool.{cond}
use lib.ListN.{length}
use borrow.Author.Tests.{eq-eqb, ne_eqb}
use Rattle.sheet_layout.specs.Format.{columns, rows}
use Rattle.sheet_calls.specs.Rules.{first_refusal}
use Rattle.sheet_calls.specs.Refusals.{sheet_refusal}
use Rattle.sheet_calls.specs.WellFormed.{InRange}
use Rattle.sheet_calls.proofs.Rules.{or_else}
use Rattle.sheet_calls.proofs.Chains.{sheet_append, cond_zero, not_given, behind_sheet, sheet_taken}
use Rattle.sheet_pool.specs.Pool.{pooled_node, pooled, second_refused, other_lines, other_target, some_sum_out, pool_rules, pool_refusal, with_pool}
use Rattle.sheet_calls.specs.OnSameLines.{OnSameLines}
use Rattle.sheet_pool.proofs.Conditions.{fifteen, sixteen, seventeen, eleven}

pub pool_is : (a b : List ℕ) (n : ℕ) → pool_refusal a b n
    ≡ or_else (sheet_refusal a) (cond (second_refused b) 15 (cond (other_lines a b) 16 (cond (other_target a n) 17 (cond (some_sum_out a b) 11 0))))
unfolding pool_refusal pool_rules first_refusal
pool_is a b n = sheet_append _ _ _

-- what a call that is not refused says of its input
pub record Held (a b : List ℕ) (n : ℕ) : Type 0 where
  pub pair : OnSameLines a b
  pub size : n ≡ length a
  pub sums : (i j : ℕ) → i < columns a → j < rows a → InRange (pooled_node a b i j)

pub pool_held : (a b : List ℕ) (n : ℕ) → pool_refusal a b n ≡ 0 → Held a b n
pool_held a b n e =
    let h = behind_sheet (sym (pool_is a b n) ∙ e) in
    let second = cond_zero (second_refused b) 14 _ h.1 in
    let lines = cond_zero (other_lines a b) 15 _ second.1 in
    let size = cond_zero (other_target a n) 16 _ lines.1 in
    let sums = (eleven a b).0 (not_given (some_sum_out a b) 10 size.1) in
    record {
      pair = record { first_accepted = h.0; second_accepted = (fifteen b).0 second.0; lines = (sixteen a b).0 lines.0 };
      size = (seventeen a n).0 size.0;
      sums = λ i j l k. sums j k i l;
    }

pub pool_taken : (a b : List ℕ) (n : ℕ) → Held a b n → pool_refusal a b n ≡ 0
pool_taken a b n h =
    let p = h.pair in
    pool_is a b n ∙ sheet_taken p.first_accepted
    ∙ rw ((fifteen b).1 p.second_accepted, (sixteen a b).1 p.lines, (seventeen a n).1 h.size, (eleven a b).1 (λ j k i l. h.sums i j l k)) refl

-- ---- pooled or refused

pub pooled_is : (a b target : List ℕ) → pool_refusal a b (length target) ≡ 0 → with_pool a b target ≡ pooled a b
unfolding with_pool
pooled_is a b target e = rw (eq-eqb _ _ e) refl

pub refused_is : (a b target : List ℕ) → ¬ (pool_refusal a b (length target) ≡ 0) → with_pool a b target ≡ target
unfolding with_pool
refused_is a b target e = rw (ne_eqb _ _ e) refl
