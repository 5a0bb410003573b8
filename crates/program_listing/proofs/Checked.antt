-- What the check has given, and what it says of the bytes. Assumes nothing.
use Rattle.std.proofs.Common.{Result, Ok, Err, ℕ, ◌≡◌, ◌∙◌, List, sym, ap}
use Rattle.sheet_calls.specs.Refusals.{sheet_refusal}
use Rattle.sheet_calls.specs.Refused.{number, refusal_number}
use Rattle.sheet_calls.specs.declared.refusal.Refusal.{Refusal}
use Rattle.sheet_calls.proofs.Refused.{number-not_zero}

module _ {A : Type 0} (s : List ℕ) {r : Result A Refusal} (given : refusal_number r ≡ sheet_refusal s) where
  pub unrefused : {a : A} → r ≡ Ok a → sheet_refusal s ≡ 0
  unrefused e = sym given ∙ ap refusal_number e

  pub refused_with : {f : Refusal} → r ≡ Err f → number f ≡ sheet_refusal s
  refused_with e = sym (ap refusal_number e) ∙ given

  pub refused : {f : Refusal} → r ≡ Err f → ¬ (sheet_refusal s ≡ 0)
  refused e z = number-not_zero _ (refused_with e ∙ z)
