-- When listing bends is refused: as its sheet is, then by 7, then by 14. Assumes nothing.
use Prim.Native.Nat.{ℕ, ◌≤◌}
use mathlib.Core.Path.{◌≡◌, refl, sym, ◌∙◌}
use mathlib.Core.Logic.{◌↔◌}
use mathlib.Core.List.{List, [], ◌∷◌, map}
use mathlib.Core.Bool.{Bool, false, cond}
use lib.Dec.{ltb}
use Rattle.sheet_layout.proofs.Meaning.{ltb_fails}
use Rattle.sheet_calls.specs.Rules.{first_refusal}
use Rattle.sheet_calls.specs.Refusals.{outside, Accepted, sheet_rules, sheet_refusal}
use Rattle.sheet_calls.specs.WellFormed.{Inside}
use Rattle.sheet_calls.proofs.Rules.{or_else, passed_by}
use Rattle.sheet_calls.proofs.Conditions.{condition_laws}
use Rattle.sheet_calls.proofs.Chains.{sheet_append, cond_zero, not_given, behind_sheet, sheet_taken}
use Rattle.surface_bends.specs.Bends.{too_few, bends_rules, bends_refusal}

pub numbers : map (λ r. r.number) bends_rules ≡ 1 ∷ 2 ∷ 3 ∷ 4 ∷ 5 ∷ 6 ∷ 7 ∷ 14 ∷ []
unfolding bends_rules sheet_rules
numbers = refl

pub fourteen : (places : ℕ) → (too_few places ≡ false) ↔ (24 ≤ places)
unfolding too_few
fourteen places = ltb_fails places 24

module _ (s : List ℕ) (x y places : ℕ) where
  pub bends_is : bends_refusal s x y places ≡ or_else (sheet_refusal s) (cond (outside s x y) 7 (cond (too_few places) 14 0))
  unfolding bends_refusal bends_rules first_refusal
  bends_is = sheet_append _ _ _

  -- from the answers that code has: the sheet is accepted, then the pixel's test, then the buffer's
  pub bends_answer : sheet_refusal s ≡ 0 → {p f : Bool} → p ≡ outside s x y → f ≡ ltb places 24 → cond p 7 (cond f 14 0) ≡ bends_refusal s x y places
  unfolding too_few
  bends_answer z e g = rw (e, g) (passed_by _ _ bends_is refl z)

  pub taken : (bends_refusal s x y places ≡ 0) ↔ (Accepted s × Inside s x y × (24 ≤ places))
  taken = (
    λ e. let h = behind_sheet (sym bends_is ∙ e) in
        let p = cond_zero (outside s x y) 6 _ h.1 in
        (h.0, (condition_laws.seven s x y).0 p.0, (fourteen places).0 (not_given (too_few places) 13 p.1)),
    λ (a, i, few). bends_is ∙ sheet_taken a ∙ rw ((condition_laws.seven s x y).1 i, (fourteen places).1 few) refl,
  )
