-- Equations and inequalities over ℤ from others, by a certificate that is checked:
-- `deduce 3 (λ x y z. (# 2 · (x ≼ y)) ∷ (z · (y ≐ # 7)) ∷ [] ⊨ goal) tt x y z h e`. Each hypothesis has a multiplier: any expression where it is an
-- equation, a natural literal where it is an inequality. Right side less left side of the goal is the sum of multiplier times the same of the
-- hypotheses; for an inequality it may exceed that by a natural. a ≺ b counts as a + 1 ≼ b. Assumes nothing.
use mathlib.Core.Path.{◌≡◌, refl, sym, ◌∙◌, ap, ap₂, subst, subst⁻¹}
use mathlib.Core.Bool.{Bool, true, false, ◌&&◌}
use mathlib.Core.List.{List, [], ◌∷◌}
use Prim.Native.Nat.{ℕ, zero}
use lib.Dec.{T}
use lib.IntN.{ℤ, pos, negsuc, ◌+ℤ◌, ◌-ℤ◌, ◌*ℤ◌, +ℤ_invr, *ℤ-zero}
use lib.Signed.{◌≤ℤ◌, ≤ℤ_refl}
use Rattle.integers.proofs.RingLaws.{eq_of_difference}
use Rattle.integers.proofs.Polynomial.{Expr, #◌, ◌⊕◌, ◌⊗◌, ◌⊝◌, eval, Poly, constant, horner, eval_poly, normal, normal_sound}
use Rattle.integers.proofs.Solve.{Claim, ◌≐◌, ◌≼◌, ◌≺◌, Holds, Quoted, quoted, Every, every, same, same_sound, solve}
use Rattle.integers.proofs.Order.{<ℤ→suc≤ℤ, suc≤ℤ→<ℤ, le_by, nonneg-+, nonneg-*, pos_nonneg, nonneg_difference}

infix 15 ◌·◌
infix 10 ◌⊨◌
pub record Used : Type 0 where
  pub multiplier : Expr
  pub claim : Claim

abbrev pub ◌·◌ : Expr → Claim → Used
k · c = record { multiplier = k; claim = c }

pub record Deduction : Type 0 where
  pub from : List Used
  pub goal : Claim

abbrev pub ◌⊨◌ : List Used → Claim → Deduction
us ⊨ c = record { from = us; goal = c }

-- from each hypothesis in turn to G
abbrev pub Given : List ℤ → List Used → Type 0 → Type 0
Given ρ [] G = G
Given ρ (u ∷ us) G = Holds u.claim ρ → Given ρ us G

abbrev pub Follows : Deduction → List ℤ → Type 0
Follows d ρ = Given ρ d.from (Holds d.goal ρ)

-- ---- the certificate

abbrev pub is_natural : Poly → Bool
is_natural (constant (pos n)) = true
is_natural (constant (negsuc n)) = false
is_natural (horner i P Q) = false

-- right side less left side, and one less where they must differ
abbrev pub surplus : Claim → Expr
surplus (a ≐ b) = b ⊝ a
surplus (a ≼ b) = b ⊝ a
surplus (a ≺ b) = b ⊝ (a ⊕ # 1)

abbrev pub more : Expr → Used → Expr
more sum u = sum ⊕ u.multiplier ⊗ surplus u.claim

-- may this hypothesis be used for an equation, and for an inequality?
abbrev pub equates : Claim → Bool
equates (a ≐ b) = true
equates (a ≼ b) = false
equates (a ≺ b) = false

abbrev pub bounds : Expr → Claim → Bool
bounds k (a ≐ b) = true
bounds k (a ≼ b) = is_natural (normal k)
bounds k (a ≺ b) = is_natural (normal k)

abbrev pub equation : Expr → List Used → Expr → Bool
equation sum [] gap = same gap sum
equation sum (u ∷ us) gap = equates u.claim && equation (more sum u) us gap

abbrev pub inequality : Expr → List Used → Expr → Bool
inequality sum [] gap = is_natural (normal (gap ⊝ sum))
inequality sum (u ∷ us) gap = bounds u.multiplier u.claim && inequality (more sum u) us gap

abbrev pub certified : List Used → Claim → Bool
certified us (a ≐ b) = equation (# zero) us (b ⊝ a)
certified us (a ≼ b) = inequality (# zero) us (b ⊝ a)
certified us (a ≺ b) = inequality (# zero) us (b ⊝ (a ⊕ # 1))

-- ---- it is enough

pub both : (a b : Bool) → T (a && b) → T a × T b
both true b t = (tt, t)
both false b t = absurd t

module _ (ρ : List ℤ) where
  constant_natural : (p : Poly) → T (is_natural p) → pos zero ≤ℤ (eval_poly ρ p)
  constant_natural (constant (pos n)) t = pos_nonneg n
  constant_natural (constant (negsuc n)) t = absurd t
  constant_natural (horner i P Q) t = absurd t

  is_natural_lem : (e : Expr) → T (is_natural (normal e)) → pos zero ≤ℤ (eval ρ e)
  is_natural_lem e t = subst (λ x. pos zero ≤ℤ x) (normal_sound ρ e) (constant_natural (normal e) t)

  no_surplus : (k : Expr) (c : Claim) → T (equates c) → Holds c ρ → eval ρ k *ℤ eval ρ (surplus c) ≡ pos zero
  no_surplus k (a ≐ b) t e = ap (λ x. eval ρ k *ℤ (eval ρ b -ℤ x)) e ∙ ap (λ x. eval ρ k *ℤ x) (+ℤ_invr (eval ρ b)) ∙ *ℤ-zero (eval ρ k)
  no_surplus k (a ≼ b) t h = absurd t
  no_surplus k (a ≺ b) t h = absurd t

  surplus_nonneg : (k : Expr) (c : Claim) → T (bounds k c) → Holds c ρ → pos zero ≤ℤ (eval ρ k *ℤ eval ρ (surplus c))
  surplus_nonneg k (a ≐ b) t e = subst⁻¹ (λ x. pos zero ≤ℤ x) (no_surplus k (a ≐ b) tt e) (≤ℤ_refl (pos zero))
  surplus_nonneg k (a ≼ b) t h = nonneg-* (is_natural_lem k t) (nonneg_difference h)
  surplus_nonneg k (a ≺ b) t h = nonneg-* (is_natural_lem k t) (nonneg_difference (<ℤ→suc≤ℤ h))

  equation_sound : (a b sum : Expr) (us : List Used) → eval ρ sum ≡ pos zero → T (equation sum us (b ⊝ a)) → Given ρ us (eval ρ a ≡ eval ρ b)
  equation_sound a b sum [] z t =
      sym (eq_of_difference (eval ρ b) (eval ρ a) (same_sound (b ⊝ a) sum t ρ ∙ z))
  equation_sound a b sum (u ∷ us) z t = let (s, r) = both (equates u.claim) (equation (more sum u) us (b ⊝ a)) t in
      λ h. equation_sound a b (more sum u) us (ap₂ (λ x y. x +ℤ y) z (no_surplus u.multiplier u.claim s h)) r

  inequality_sound : (a b sum : Expr) (us : List Used) → pos zero ≤ℤ (eval ρ sum) → T (inequality sum us (b ⊝ a)) → Given ρ us ((eval ρ a) ≤ℤ (eval ρ b))
  inequality_sound a b sum [] z t =
      le_by (eval ρ sum +ℤ eval ρ (b ⊝ a ⊝ sum))
      (solve 3 (λ a b s. b ≐ a ⊕ (s ⊕ (b ⊝ a ⊝ s))) tt (eval ρ a) (eval ρ b) (eval ρ sum))
      (nonneg-+ z (is_natural_lem (b ⊝ a ⊝ sum) t))
  inequality_sound a b sum (u ∷ us) z t = let (s, r) = both (bounds u.multiplier u.claim) (inequality (more sum u) us (b ⊝ a)) t in
      λ h. inequality_sound a b (more sum u) us (nonneg-+ z (surplus_nonneg u.multiplier u.claim s h)) r

given : (ρ : List ℤ) (us : List Used) {G H : Type 0} → (G → H) → Given ρ us G → Given ρ us H
given ρ [] f g = f g
given ρ (u ∷ us) f g = λ h. given ρ us f (g h)

pub certified_sound : (us : List Used) (c : Claim) → T (certified us c) → (ρ : List ℤ) → Given ρ us (Holds c ρ)
certified_sound us (a ≐ b) t ρ = equation_sound ρ a b (# zero) us refl t
certified_sound us (a ≼ b) t ρ = inequality_sound ρ a b (# zero) us (≤ℤ_refl (pos zero)) t
certified_sound us (a ≺ b) t ρ = given ρ us suc≤ℤ→<ℤ (inequality_sound ρ (a ⊕ # 1) b (# zero) us (≤ℤ_refl (pos zero)) t)

pub deduce : (n : ℕ) (q : Quoted Deduction n) → T (certified (quoted n zero q).from (quoted n zero q).goal) → Every n (Follows (quoted n zero q))
deduce n q t = every n (Follows (quoted n zero q)) (certified_sound (quoted n zero q).from (quoted n zero q).goal t)
