-- Horner's rule along a row: neither the coefficients nor any part of the rule exceeds the row's reach. Assumes nothing.
use mathlib.Core.Path.{◌≡◌, subst}
use mathlib.Core.List.{List}
use Prim.Native.Nat.{ℕ, ◌+◌, ◌*◌, ◌≤◌}
use native.Mathlib.Omega.{arith}
use lib.ListN.{get_or}
use lib.IntN.{ℤ, pos, nat_abs, ◌+ℤ◌, ◌*ℤ◌}
use Rattle.integers.specs.Within.{◌within◌}
use Rattle.integers.proofs.Bounds.{is_within, within_self, within_mono, within-+, within-*}
use Rattle.integers.proofs.Polynomial.{◌⊕◌, ◌⊗◌}
use Rattle.integers.proofs.Solve.{◌≐◌, solve}
use Rattle.element_row_cubic.specs.Row.{at_offset, reach}
use Rattle.element_row_cubic.proofs.Limits.{reach_limit}

module _ (p : List ℤ) {a : ℕ} (r : reach p ≤ reach_limit) (u : a ≤ 64) where
  abbrev coefficient : ℕ → ℤ
  coefficient i = get_or p i (pos 0)

  abbrev M : ℕ
  M = reach_limit

  -- p₃, p₂ + a p₃, p₁ + a (p₂ + a p₃), and bounds of them
  abbrev bound₂ : ℕ
  bound₂ = nat_abs (coefficient 2) + 64 * nat_abs (coefficient 3)

  abbrev bound₁ : ℕ
  bound₁ = nat_abs (coefficient 1) + 64 * bound₂

  abbrev part₂ : ℤ
  part₂ = coefficient 2 +ℤ pos a *ℤ coefficient 3

  abbrev part₁ : ℤ
  part₁ = coefficient 1 +ℤ pos a *ℤ part₂

  within₁ : 64 * bound₁ ≤ M
  unfolding reach
  within₁ = let f : nat_abs (coefficient 0) + 64 * bound₁ ≤ M = r in omega arith

  times : {x : ℤ} {X : ℕ} → x within X → (pos a *ℤ x) within (64 * X)
  times h = within-* (is_within (pos a) u) h

  plus : (z : ℤ) {x : ℤ} {X : ℕ} → x within X → (z +ℤ pos a *ℤ x) within (nat_abs z + 64 * X)
  plus z h = within-+ (within_self z) (times h)

  -- the coefficients
  pub c₀ : coefficient 0 within M
  unfolding reach
  c₀ = is_within (coefficient 0) (let f : nat_abs (coefficient 0) + 64 * bound₁ ≤ M = r in omega arith)

  pub c₁ : coefficient 1 within M
  c₁ = is_within (coefficient 1) (omega (arith, within₁))

  pub c₂ : coefficient 2 within M
  c₂ = is_within (coefficient 2) (omega (arith, within₁))

  pub c₃ : coefficient 3 within M
  c₃ = is_within (coefficient 3) (omega (arith, within₁))

  -- the products and the sums
  pub m₂ : (pos a *ℤ coefficient 3) within M
  m₂ = within_mono (times (within_self (coefficient 3))) (omega (arith, within₁))

  pub s₂ : part₂ within M
  s₂ = within_mono (plus (coefficient 2) (within_self (coefficient 3))) (omega (arith, within₁))

  pub m₁ : (pos a *ℤ part₂) within M
  m₁ = within_mono (times (plus (coefficient 2) (within_self (coefficient 3)))) (omega (arith, within₁))

  pub s₁ : part₁ within M
  s₁ = within_mono (plus (coefficient 1) (plus (coefficient 2) (within_self (coefficient 3)))) (omega (arith, within₁))

  pub m₀ : (pos a *ℤ part₁) within M
  m₀ = within_mono (times (plus (coefficient 1) (plus (coefficient 2) (within_self (coefficient 3))))) within₁

  pub s₀ : (coefficient 0 +ℤ pos a *ℤ part₁) within M
  unfolding reach
  s₀ = within_mono (plus (coefficient 0) (plus (coefficient 1) (plus (coefficient 2) (within_self (coefficient 3))))) r

  pub expanded : coefficient 0 +ℤ pos a *ℤ part₁ ≡ at_offset p a
  unfolding at_offset
  expanded = solve 5 (λ a p q r s. p ⊕ a ⊗ (q ⊕ a ⊗ (r ⊕ a ⊗ s)) ≐ p ⊕ q ⊗ a ⊕ r ⊗ (a ⊗ a) ⊕ s ⊗ (a ⊗ a ⊗ a)) tt
      (pos a) (coefficient 0) (coefficient 1) (coefficient 2) (coefficient 3)

  pub at_offset_within : at_offset p a within M
  at_offset_within = subst (λ z. z within M) expanded s₀
