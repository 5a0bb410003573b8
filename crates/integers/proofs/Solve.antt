-- Identities over ℤ, decided: `solve 2 (λ x y. (x ⊕ y) ⊗ (x ⊝ y) ≐ x ⊗ x ⊝ y ⊗ y) tt` has the type
-- (x y : ℤ) → (x +ℤ y) *ℤ (x -ℤ y) ≡ x *ℤ x -ℤ y *ℤ y. A claim is written over expressions, one binder for each number; a literal is `# 3`.
-- Assumes nothing.
use mathlib.Core.Path.{◌≡◌, sym, ◌∙◌}
use mathlib.Core.Bool.{Bool, false}
use mathlib.Core.List.{List, [], ◌∷◌}
use Prim.Native.Nat.{ℕ, zero, suc}
use lib.Dec.{T}
use lib.IntN.{ℤ}
use lib.Signed.{◌≤ℤ◌, ◌<ℤ◌}
use Rattle.integers.proofs.RingLaws.{eq_of_difference}
use Rattle.integers.proofs.Polynomial.{Expr, var, ◌⊝◌, eval, normal, is_zero, normal_sound, zero_sound}

infix 20 ◌≐◌ ◌≼◌ ◌≺◌
pub data Claim : Type 0 where
  ◌≐◌ : Expr → Expr → Claim
  ◌≼◌ : Expr → Expr → Claim
  ◌≺◌ : Expr → Expr → Claim

abbrev pub Holds : Claim → List ℤ → Type 0
Holds (a ≐ b) ρ = eval ρ a ≡ eval ρ b
Holds (a ≼ b) ρ = (eval ρ a) ≤ℤ (eval ρ b)
Holds (a ≺ b) ρ = (eval ρ a) <ℤ (eval ρ b)

-- ---- binders in place of numbered variables

-- a function of n expressions
abbrev pub Quoted : Type 0 → ℕ → Type 0
Quoted A zero = A
Quoted A (suc n) = Expr → Quoted A n

-- its value at the variables from i on
abbrev pub quoted : {A : Type 0} (n : ℕ) → ℕ → Quoted A n → A
quoted zero i q = q
quoted (suc n) i q = quoted n (suc i) (q (var i))

-- K of every list of n integers, one binder for each
abbrev pub Every : ℕ → (List ℤ → Type 0) → Type 0
Every zero K = K []
Every (suc n) K = (x : ℤ) → Every n (λ ρ. K (x ∷ ρ))

pub every : (n : ℕ) (K : List ℤ → Type 0) → ((ρ : List ℤ) → K ρ) → Every n K
every zero K f = f []
every (suc n) K f = λ x. every n (λ ρ. K (x ∷ ρ)) (λ ρ. f (x ∷ ρ))

-- ---- the decision

-- the difference of the two sides is 0 in normal form
abbrev pub same : Expr → Expr → Bool
same a b = is_zero (normal (a ⊝ b))

pub same_sound : (a b : Expr) → T (same a b) → (ρ : List ℤ) → eval ρ a ≡ eval ρ b
same_sound a b t ρ = eq_of_difference (eval ρ a) (eval ρ b) (sym (normal_sound ρ (a ⊝ b)) ∙ zero_sound ρ (normal (a ⊝ b)) t)

abbrev pub identity : Claim → Bool
identity (a ≐ b) = same a b
identity (a ≼ b) = false
identity (a ≺ b) = false

identity_sound : (c : Claim) → T (identity c) → (ρ : List ℤ) → Holds c ρ
identity_sound (a ≐ b) t ρ = same_sound a b t ρ
identity_sound (a ≼ b) t ρ = absurd t
identity_sound (a ≺ b) t ρ = absurd t

pub solve : (n : ℕ) (q : Quoted Claim n) → T (identity (quoted n zero q)) → Every n (Holds (quoted n zero q))
solve n q t = every n (Holds (quoted n zero q)) (identity_sound (quoted n zero q) t)
