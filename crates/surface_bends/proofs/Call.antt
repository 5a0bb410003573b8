-- What the call answers, and what it leaves in the buffer. Assumes nothing.
use Rattle.std.proofs.Common.{Result, Ok, Err}
use Prim.Native.Nat.{ℕ, ◌+◌, ◌*◌, ◌-◌, ◌≤◌, ◌<◌}
use mathlib.Core.Path.{◌≡◌, refl, sym, ◌∙◌, ap}
use mathlib.Core.List.{List, ◌++◌}
use native.Mathlib.Omega.{arith}
use native.Mathlib.Decide.{ℕ_discrete}
use borrow.Author.Tests.{eq-eqb, ne_eqb}
use lib.IntN.{ℤ}
use lib.ListN.{length, get_or, drop, length-append, length-drop, get_or-append}
use lib.Seq.{get_or-append-add, get_or-drop}
use Rattle.sheet_calls.specs.declared.refusal.Refusal.TheVariants.{Outside, ShortList}
use Rattle.sheet_calls.proofs.Refused.{Named, name, first_named, sheet_named}
use Rattle.surface_bends.specs.Bends.{touching_places, bends, bends_rules, bends_refusal, Tally, tally, counted, with_bends}
use Rattle.sheet_calls.specs.declared.refusal.Refusal.{Refusal}
use Rattle.sheet_calls.specs.Refused.{number, RefusedWith}
use Rattle.surface_bends.proofs.Chain.{taken}
use Rattle.surface_bends.proofs.Counting.{least}
use Rattle.surface_bends.proofs.Numbers.{size, few}

-- ---- the answer

-- a tally of pieces, or of a refusal, tells the answer
told_pieces : (r : Result ℕ Refusal) (k : ℕ) → 0 < k → tally r ≡ record { number = 0; pieces = k } → r ≡ Ok k
unfolding tally
told_pieces (Ok n) k h e = ap Ok (ap (λ (t : Tally). t.pieces) e)
told_pieces (Err x) k h e = let none : 0 ≡ k = ap (λ (t : Tally). t.pieces) e in absurd (omega arith)

told_refused : (r : Result ℕ Refusal) (n : ℕ) → ¬ (n ≡ 0) → tally r ≡ record { number = n; pieces = 0 } → RefusedWith r n
unfolding tally
told_refused (Ok k) n h e = absurd (h (sym (ap (λ (t : Tally). t.number) e)))
told_refused (Err x) n h e = record { refusal = x; is = refl; numbered = ap (λ (t : Tally). t.number) e }

module _ (s : List ℕ) (x y places : ℕ) where
  pub counted_is : bends_refusal s x y places ≡ 0 → counted s x y places ≡ record { number = 0; pieces = length (touching_places s x y) }
  unfolding counted
  counted_is e = rw (eq-eqb _ 0 e) refl

  pub refused_is : ¬ (bends_refusal s x y places ≡ 0) → counted s x y places ≡ record { number = bends_refusal s x y places; pieces = 0 }
  unfolding counted
  refused_is h = rw (ne_eqb _ 0 h) refl

  pub pieces : bends_refusal s x y places ≡ 0 → (r : Result ℕ Refusal) → tally r ≡ counted s x y places → r ≡ Ok (length (touching_places s x y))
  pieces e r t = let (a, i, _) = (taken s x y places).0 e in told_pieces r _ (least s x y a i) (t ∙ counted_is e)

  pub refused : ¬ (bends_refusal s x y places ≡ 0) → (r : Result ℕ Refusal) → tally r ≡ counted s x y places → RefusedWith r (bends_refusal s x y places)
  refused h r t = told_refused r _ h (t ∙ refused_is h)

  -- a number that refuses the call is a refusal's
  pub bends_named : ¬ (bends_refusal s x y places ≡ 0) → Named (bends_refusal s x y places)
  unfolding bends_refusal bends_rules
  bends_named h = first_named bends_rules _ (sheet_named _ _ (name Outside, (name ShortList, tt))) h

-- ---- the buffer

-- a list in front leaves what lies behind it
same_behind : (l buffer : List ℤ) (k : ℕ) (z : ℤ) → get_or (l ++ drop (length l) buffer) (length l + k) z ≡ get_or buffer (length l + k) z
same_behind l buffer k z = get_or-append-add l (drop (length l) buffer) k z ∙ get_or-drop (length l) buffer k z

module _ (s : List ℕ) (x y : ℕ) (buffer : List ℤ) where
  pub written_is : bends_refusal s x y (length buffer) ≡ 0 → with_bends s x y buffer ≡ bends s x y ++ drop (length (bends s x y)) buffer
  unfolding with_bends
  written_is e = rw (eq-eqb _ 0 e) refl

  pub untouched : ¬ (bends_refusal s x y (length buffer) ≡ 0) → with_bends s x y buffer ≡ buffer
  unfolding with_bends
  untouched h = rw (ne_eqb _ 0 h) refl

  pub same_length : length (with_bends s x y buffer) ≡ length buffer
  same_length = elim (ℕ_discrete (bends_refusal s x y (length buffer)) 0) [
    | yes e ↦
        let (a, _, room) = (taken s x y (length buffer)).0 e in let most = few s x y a in
        rw (written_is e, length-append, length-drop) (omega arith)
    | no h ↦ rw (untouched h) refl
  ]

  pub front : bends_refusal s x y (length buffer) ≡ 0 → (k : ℕ) → k < length (bends s x y) → (z : ℤ) → get_or (with_bends s x y buffer) k z ≡ get_or (bends s x y) k z
  front e k h z = rw (written_is e) (get_or-append (bends s x y) _ z k h)

  pub behind : (k : ℕ) → 3 * length (touching_places s x y) ≤ k → (z : ℤ) → get_or (with_bends s x y buffer) k z ≡ get_or buffer k z
  behind k h z = elim (ℕ_discrete (bends_refusal s x y (length buffer)) 0) [
    | yes e ↦
        let on : length (bends s x y) + (k - length (bends s x y)) ≡ k = omega (arith, size s x y) in
        rw (written_is e) (rw on at (same_behind (bends s x y) buffer (k - length (bends s x y)) z))
    | no d ↦ rw (untouched d) refl
  ]
