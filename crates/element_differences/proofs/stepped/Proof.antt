-- `element_differences::stepped` meets its contract. Assumes nothing.
use mathlib.Core.List.{[], ◌∷◌}
use borrow.Author.Rules.{rules}
use mir.Syntax.{w64}
use Rattle.integers.proofs.Operand.{Operand, known, ◌⊞◌, asks, gives}
use Rattle.element_differences.specs.Differences.{stepped}
use Rattle.element_differences.proofs.stepped.Statement.{statement}
use Rattle.element_differences.proofs.stepped.Tie as tie

module _ (s : tie.Start) where
  abbrev z₀ : Operand
  z₀ = known w64 s.requires.value tt

  abbrev z₁ : Operand
  z₁ = known w64 s.requires.first tt

  abbrev z₂ : Operand
  z₂ = known w64 s.requires.second tt

  abbrev z₃ : Operand
  z₃ = known w64 s.requires.third tt

abbrev second : tie.After-result-4-1 → tie.Start
second c = c.before.before.before.before

abbrev third : tie.After-result-6-1 → tie.Start
third c = second c.before.before

returns : tie.Need-returns
unfolding stepped
returns c = let s = third c.before in λ i. gives w64 (z₀ s ⊞ z₁ s) tt i ∷ gives w64 (z₁ s ⊞ z₂ s) tt i ∷ gives w64 (z₂ s ⊞ z₃ s) tt i ∷ (z₃ s).reads i ∷ []

pub stepped_spec : {M : Type 1} → statement M
stepped_spec =
    tie.close
    (tie.spec
    (λ c. search rules)
    (λ c. search rules)
    (λ c. asks w64 (z₀ c.before.before ⊞ z₁ c.before.before) tt)
    (λ c. search rules)
    (λ c. search rules)
    (λ c. asks w64 (z₁ (second c) ⊞ z₂ (second c)) tt)
    (λ c. search rules)
    (λ c. search rules)
    (λ c. asks w64 (z₂ (third c) ⊞ z₃ (third c)) tt)
    (λ c. search rules)
    returns)
