-- A call's rules: numbered conditions on its input, looked at in the order of a list. The number that a list of rules gives, and that it is the number of the
-- first condition to hold, whatever the rules and whatever the input. Assumes nothing.
use Rattle.std.specs.Prelude.{ℕ, ◌≡◌, List, [], ◌∷◌, ◌++◌, Bool, true, false, cond}

-- a numbered condition on an input
pub record Rule (Input : Type 0) : Type 0 where
  pub number : ℕ
  pub condition : Input → Bool

abbrev pub rule : {Input : Type 0} → ℕ → (Input → Bool) → Rule Input
rule n p = record { number = n; condition = p }

-- the number of the first rule whose condition holds of the input, or 0
unfoldable pub first_refusal : {Input : Type 0} → List (Rule Input) → Input → ℕ
first_refusal [] u = 0
first_refusal (r ∷ t) u = cond (r.condition u) r.number (first_refusal t u)

-- ---- the law

-- P of every element
abbrev pub Each : {A : Type 0} → (A → Type 0) → List A → Type 0
Each P [] = Unit {0}
Each P (x ∷ xs) = P x × Each P xs

-- the rule's condition does not hold of the input
abbrev pub Fails : {Input : Type 0} → Input → Rule Input → Type 0
Fails u r = r.condition u ≡ false

-- n is the number of the rule of t that is the first in order to hold
pub record FirstToHold {Input : Type 0} (t : List (Rule Input)) (u : Input) (n : ℕ) : Type 0 where
  pub before : List (Rule Input)
  pub at : Rule Input
  pub after : List (Rule Input)
  pub listed : t ≡ before ++ at ∷ after
  pub numbered : at.number ≡ n
  pub holds : at.condition u ≡ true
  pub earlier : Each (Fails u) before

-- a number is given when its condition is the first in order to hold, and then only; 0 when none holds, and then only, where no rule has the number 0
pub record RuleLaws (Input : Type 0) : Type 0 where
  pub given : (t : List (Rule Input)) (u : Input) (n : ℕ) → FirstToHold t u n → first_refusal t u ≡ n
  pub then_only : (t : List (Rule Input)) (u : Input) (n : ℕ) → ¬ (n ≡ 0) → first_refusal t u ≡ n → FirstToHold t u n
  pub zero : (t : List (Rule Input)) (u : Input) → Each (Fails u) t → first_refusal t u ≡ 0
  pub zero_only : (t : List (Rule Input)) (u : Input) → Each (λ r. ¬ (r.number ≡ 0)) t → first_refusal t u ≡ 0 → Each (Fails u) t
