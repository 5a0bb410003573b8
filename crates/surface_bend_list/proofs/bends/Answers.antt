-- `surface_bend_list::bends` meets its contract. Assumes nothing.
use Rattle.std.proofs.Common.{Err, ℕ, ◌/◌, ◌≡◌, ◌≤◌, ◌<◌, ◌∙◌, ◌++◌, List, ℤ, length, drop, cond, refl, sym, ap, arith, rules}
use Rattle.std.proofs.lemmas.List.Edits.{sets}
use native.Mathlib.Nat.{zero-add, le_trans}
use borrow.Author.Tests.{lt-ltb, le-ltb}
use lib.Seq.{sets-eq}
use Rattle.sheet_calls.specs.Refused.{number}
use Rattle.sheet_calls.specs.declared.refusal.Refusal.{Refusal}
use Rattle.sheet_calls.proofs.Rules.{or_else, passed_by}
use Rattle.sheet_calls.proofs.Refused.{number-not_zero, refused_first}
use Rattle.surface_places.specs.Spots.{spot_refusal}
use Rattle.surface_places.proofs.Spots.{behind_spot}
use Rattle.surface_bends.specs.Bends.{touching_places, bends, too_few, bends_refusal, tally, counted}
use Rattle.surface_bends.proofs.Chain.{bends_is, taken}
use Rattle.surface_bends.proofs.Numbers.{size, few}
use Rattle.surface_bends.proofs.Call.{counted_is, refused_is, written_is, untouched}
use Rattle.surface_bend_list.proofs.bends.Goals as goal

module _ (s : List ℕ) (x y places : ℕ) where
  -- the pixel's refusal, then that of the buffer
  by_spot : bends_refusal s x y places ≡ or_else (spot_refusal s x y) (cond (too_few places) 14 0)
  by_spot = bends_is s x y places ∙ behind_spot s x y _

  short : 0 ≡ spot_refusal s x y → places < 24 → 14 ≡ bends_refusal s x y places
  unfolding too_few
  short e h = ap (λ b. cond b 14 0) (sym (lt-ltb places 24 h)) ∙ passed_by _ _ by_spot e refl

  passed : 0 ≡ spot_refusal s x y → 24 ≤ places → bends_refusal s x y places ≡ 0
  unfolding too_few
  passed e h = sym (ap (λ b. cond b 14 0) (sym (le-ltb places 24 h)) ∙ passed_by _ _ by_spot e refl)

  -- what is answered where the call is refused
  told : (e : Refusal) → number e ≡ bends_refusal s x y places → tally (Err e) ≡ counted s x y places
  unfolding tally
  told e h = ap (λ n. record { number = n; pieces = 0 }) h ∙ sym (refused_is s x y places (λ z. number-not_zero e (h ∙ z)))

-- stores from the start on put a list in front
front : (zs l : List ℤ) → length zs ≤ length l → sets l 0 zs ≡ zs ++ drop (length zs) l
front zs l h = sets-eq zs l 0 (rw zero-add h) ∙ rw (zero-add (length zs)) refl

-- three numbers a piece
third : (s : List ℕ) (x y n : ℕ) → n ≡ length (bends s x y) → n / 3 ≡ length (touching_places s x y)
third s x y n e = omega (arith, e, size s x y)

pub returns-in_err-spot-clause-answer : goal.returns-in_err-spot-clause-answer
returns-in_err-spot-clause-answer c =
    let a = c.args in let h = told _ _ _ (length a.list.now) _ (refused_first _ _ (by_spot a.sheet.now a.x a.y (length a.list.now)) _ c.in_err-spot.ensures.refusal) in search rules

pub returns-in_err-spot-clause-list : goal.returns-in_err-spot-clause-list
returns-in_err-spot-clause-list c =
    sym (untouched _ _ _ _ (λ z. number-not_zero _ (refused_first _ _ (by_spot _ _ _ _) _ c.in_err-spot.ensures.refusal ∙ z)))

pub returns-then-list-lt-PLACES-clause-answer : goal.returns-then-list-lt-PLACES-clause-answer
returns-then-list-lt-PLACES-clause-answer c = told _ _ _ _ _ (short _ _ _ _ c.in_ok-spot.ensures.refusal c.if-list-lt-PLACES.true)

pub returns-then-list-lt-PLACES-clause-list : goal.returns-then-list-lt-PLACES-clause-list
returns-then-list-lt-PLACES-clause-list c =
    sym (untouched _ _ _ _ (λ z. let h = short _ _ _ _ c.in_ok-spot.ensures.refusal c.if-list-lt-PLACES.true ∙ z in omega (arith, h)))

pub overflow_cast-result : goal.overflow_cast-result
overflow_cast-result c =
    let a = c.in_ok-spot.spot in let n : c.list_rows-numbers.result ≤ 24 = omega (arith, c.list_rows-numbers.ensures.answer, few a.sheet.bytes.now a.x a.y a.sheet.accepted) in search rules

pub returns-clause-answer : goal.returns-clause-answer
unfolding tally
returns-clause-answer c =
    let a = c.args in let e = c.in_ok-spot.ensures in let of = e.spot in
    let n : c.list_rows-numbers.result ≡ length (bends a.sheet.now a.x a.y) = c.list_rows-numbers.ensures.answer ∙ (λ t. length (bends (of.0 t).now (of.1 t) (of.2 t))) in
    ap (λ k. record { number = 0; pieces = k }) (third _ _ _ _ n) ∙ sym (counted_is _ _ _ _ (passed _ _ _ _ e.refusal c.if-list-lt-PLACES.false))

pub returns-clause-list : goal.returns-clause-list
returns-clause-list c =
    let a = c.args in let e = c.in_ok-spot.ensures in let of = e.spot in let done = passed _ _ _ _ e.refusal c.if-list-lt-PLACES.false in
    let right = (taken a.sheet.now a.x a.y (length a.list.now)).0 done in
    let stored : c.list_rows-numbers.new.list ≡ sets a.list.now 0 (bends a.sheet.now a.x a.y) = c.list_rows-numbers.ensures.list ∙ (λ t. sets a.list.now 0 (bends (of.0 t).now (of.1 t) (of.2 t))) in
    stored ∙ front (bends a.sheet.now a.x a.y) a.list.now (le_trans (few _ _ _ right.0) right.2) ∙ sym (written_is _ _ _ _ done)
