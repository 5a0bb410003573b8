-- When an input is refused: by 1 where it has fewer than two bytes, then as looking up the node is; and what is answered then, and otherwise. Assumes nothing.
use Prim.Native.Nat.{ℕ, ◌≤◌, ◌<◌}
use mathlib.Core.Path.{◌≡◌, refl, sym, ◌∙◌, ap}
use mathlib.Core.Logic.{◌↔◌}
use mathlib.Core.List.{List, [], ◌∷◌, ◌++◌, map}
use mathlib.Core.Bool.{false, cond}
use borrow.Author.Tests.{lt-ltb, le-ltb, eq-eqb, ne_eqb}
use native.Mathlib.Decide.{ℕ_discrete}
use native.Mathlib.Omega.{arith}
use lib.ListN.{length, length-append}
use Rattle.sheet_layout.specs.Format.{columns, rows}
use Rattle.sheet_layout.proofs.Meaning.{ltb_fails}
use Rattle.sheet_calls.specs.Rules.{first_refusal}
use Rattle.sheet_calls.specs.Refusals.{sheet_rules, lookup_refusal, Accepted}
use Rattle.sheet_calls.proofs.Chains.{sheet_append, lookup_is, lookup_taken}
use Rattle.sheet_reach.specs.Reach.{outermost, sheet_in, column_in, row_in, too_short, reach_rules, reach_refusal, ReachAnswer, reach_answer}
use Rattle.sheet_reach.proofs.Input.{parts}

pub numbers : map (λ r. r.number) reach_rules ≡ 1 ∷ 1 ∷ 2 ∷ 3 ∷ 4 ∷ 5 ∷ 6 ∷ 10 ∷ []
unfolding reach_rules sheet_rules
numbers = refl

module _ (input : List ℕ) where
  pub one : (too_short input ≡ false) ↔ (2 ≤ length input)
  unfolding too_short
  one = ltb_fails (length input) 2

  reach_is : reach_refusal input ≡ cond (too_short input) 1 (lookup_refusal (sheet_in input) (column_in input) (row_in input))
  unfolding reach_refusal reach_rules first_refusal
  reach_is = ap (cond (too_short input) 1) (sheet_append sheet_in _ input ∙ sym (lookup_is (sheet_in input) (column_in input) (row_in input)))

  pub short : length input < 2 → reach_refusal input ≡ 1
  unfolding too_short
  short h = reach_is ∙ rw (lt-ltb (length input) 2 h) refl

  pub lookup : 2 ≤ length input → reach_refusal input ≡ lookup_refusal (sheet_in input) (column_in input) (row_in input)
  unfolding too_short
  lookup h = reach_is ∙ rw (le-ltb (length input) 2 h) refl

  pub lines_answer : reach_refusal input ≡ 0 → let o = outermost (sheet_in input) (column_in input) (row_in input) in
      reach_answer input ≡ record { number = 0; positions = o.left ∷ o.top ∷ o.right ∷ o.bottom ∷ [] }
  unfolding reach_answer
  lines_answer e = rw (eq-eqb _ 0 e) refl

  pub refused_answer : {n : ℕ} → n ≡ reach_refusal input → ¬ (n ≡ 0) → reach_answer input ≡ record { number = n; positions = [] }
  unfolding reach_answer
  refused_answer e h = rw (← e, ne_eqb _ 0 h) refl

  -- the number that is answered
  pub number_is : (reach_answer input).number ≡ reach_refusal input
  number_is = elim (ℕ_discrete (reach_refusal input) 0) [
    | yes e ↦ ap (λ (a : ReachAnswer). a.number) (lines_answer e) ∙ sym e
    | no h ↦ ap (λ (a : ReachAnswer). a.number) (refused_answer refl h)
  ]

-- a sheet with the bytes of a node that it has
pub node_answer : (s : List ℕ) (i j : ℕ) → Accepted s → i < columns s → j < rows s → let o = outermost s i j in
    reach_answer (s ++ i ∷ j ∷ []) ≡ record { number = 0; positions = o.left ∷ o.top ∷ o.right ∷ o.bottom ∷ [] }
node_answer s i j accepted column row =
    let input = s ++ i ∷ j ∷ [] in
    let (same, is-i, is-j) = parts s i j in
    let two : 2 ≤ length input = omega (arith, length-append s (i ∷ j ∷ [])) in
    let taken : reach_refusal input ≡ 0 = lookup input two ∙ rw (same, is-i, is-j) (lookup_taken (record { accepted = accepted; column = column; row = row })) in
    lines_answer input taken ∙ rw (same, is-i, is-j) refl
