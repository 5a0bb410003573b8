-- Polynomial inequalities over ℕ, decided by normal forms: where every coefficient of the difference is a natural, it holds at all naturals.
-- `naturally 2 (λ u v. # 2 ⊗ u ≼ # 3 ⊗ u ⊕ v ⊗ v) tt` has the type (u v : ℕ) → (pos 2 *ℤ pos u) ≤ℤ (pos 3 *ℤ pos u +ℤ pos v *ℤ pos v);
-- `absolutes 2 (λ u v. (u ⊗ v) ∷ (⊖ v) ∷ [] ∑≼ cap) tt` bounds |u v| + |−v| alike, where the coefficients of each part have one sign. Assumes nothing.
use mathlib.Core.Path.{◌≡◌, sym, ◌∙◌, ap, subst}
use mathlib.Core.Bool.{Bool, true, false, ◌&&◌}
use mathlib.Core.List.{List, [], ◌∷◌}
use Prim.Native.Nat.{ℕ, zero, suc, ◌+◌}
use lib.Dec.{T}
use lib.IntN.{ℤ, pos, negsuc, neg_ℤ, nat_abs}
use lib.Signed.{◌≤ℤ◌, pos-nat_abs, yes_non_neg}
use Rattle.integers.proofs.Polynomial.{Expr, #◌, ◌⊕◌, ◌⊝◌, ⊖◌, look, eval, Poly, constant, horner, eval_poly, normal, normal_sound}
use Rattle.integers.proofs.Solve.{Claim, ◌≐◌, ◌≼◌, ◌≺◌, Holds, Quoted, quoted, same, same_sound, solve}
use Rattle.integers.proofs.Order.{suc≤ℤ→<ℤ, le_by, nonneg-+, nonneg-*, pos_nonneg}
use Rattle.integers.proofs.Deduce.{both, ◌·◌, ◌⊨◌, deduce}
use Rattle.integers.proofs.Bounds.{nat_abs_neg}

-- every coefficient is a natural
abbrev pub natural : Poly → Bool
natural (constant (pos n)) = true
natural (constant (negsuc n)) = false
natural (horner i P Q) = natural P && natural Q

abbrev pub naturals : List ℕ → List ℤ
naturals [] = []
naturals (n ∷ ns) = pos n ∷ naturals ns

-- K of every list of n naturals, one binder for each
abbrev pub EveryNatural : ℕ → (List ℤ → Type 0) → Type 0
EveryNatural zero K = K []
EveryNatural (suc n) K = (x : ℕ) → EveryNatural n (λ ρ. K (pos x ∷ ρ))

every_natural : (n : ℕ) (K : List ℤ → Type 0) → ((ns : List ℕ) → K (naturals ns)) → EveryNatural n K
every_natural zero K f = f []
every_natural (suc n) K f = λ x. every_natural n (λ ρ. K (pos x ∷ ρ)) (λ ns. f (x ∷ ns))

-- ---- one inequality

look_nonneg : (ns : List ℕ) (i : ℕ) → pos zero ≤ℤ (look (naturals ns) i)
look_nonneg [] i = pos_nonneg zero
look_nonneg (n ∷ ns) zero = pos_nonneg n
look_nonneg (n ∷ ns) (suc i) = look_nonneg ns i

poly_nonneg : (ns : List ℕ) (p : Poly) → T (natural p) → pos zero ≤ℤ (eval_poly (naturals ns) p)
poly_nonneg ns (constant (pos n)) t = pos_nonneg n
poly_nonneg ns (constant (negsuc n)) t = absurd t
poly_nonneg ns (horner i P Q) t = let (s, r) = both (natural P) (natural Q) t in
    nonneg-+ (nonneg-* (poly_nonneg ns P s) (look_nonneg ns i)) (poly_nonneg ns Q r)

nonneg : (e : Expr) → T (natural (normal e)) → (ns : List ℕ) → pos zero ≤ℤ (eval (naturals ns) e)
nonneg e t ns = subst (λ x. pos zero ≤ℤ x) (normal_sound (naturals ns) e) (poly_nonneg ns (normal e) t)

abbrev pub holds_naturally : Claim → Bool
holds_naturally (a ≐ b) = same a b
holds_naturally (a ≼ b) = natural (normal (b ⊝ a))
holds_naturally (a ≺ b) = natural (normal (b ⊝ (a ⊕ # 1)))

at_most : (a b : Expr) → T (natural (normal (b ⊝ a))) → (ns : List ℕ) → (eval (naturals ns) a) ≤ℤ (eval (naturals ns) b)
at_most a b t ns =
    le_by (eval (naturals ns) (b ⊝ a)) (solve 2 (λ a b. b ≐ a ⊕ (b ⊝ a)) tt (eval (naturals ns) a) (eval (naturals ns) b)) (nonneg (b ⊝ a) t ns)

naturally_sound : (c : Claim) → T (holds_naturally c) → (ns : List ℕ) → Holds c (naturals ns)
naturally_sound (a ≐ b) t ns = same_sound a b t (naturals ns)
naturally_sound (a ≼ b) t ns = at_most a b t ns
naturally_sound (a ≺ b) t ns = suc≤ℤ→<ℤ (at_most (a ⊕ # 1) b t ns)

pub naturally : (n : ℕ) (q : Quoted Claim n) → T (holds_naturally (quoted n zero q)) → EveryNatural n (Holds (quoted n zero q))
naturally n q t = every_natural n (Holds (quoted n zero q)) (naturally_sound (quoted n zero q) t)

-- ---- a sum of absolute values

abbrev pub signed : Bool → Expr → Expr
signed true e = e
signed false e = ⊖ e

-- |e|, where the normal form has one sign
abbrev pub absolute : Expr → Expr
absolute e = signed (natural (normal e)) e

infix 12 ◌∑≼◌
pub record Absolutes : Type 0 where
  pub parts : List Expr
  pub cap : Expr

abbrev pub ◌∑≼◌ : List Expr → Expr → Absolutes
es ∑≼ cap = record { parts = es; cap = cap }

abbrev pub sum_of_absolutes : List ℤ → List Expr → ℕ
sum_of_absolutes ρ [] = zero
sum_of_absolutes ρ (e ∷ es) = nat_abs (eval ρ e) + sum_of_absolutes ρ es

abbrev pub Capped : Absolutes → List ℤ → Type 0
Capped s ρ = (pos (sum_of_absolutes ρ s.parts)) ≤ℤ (eval ρ s.cap)

abbrev pub fits : List Expr → Expr → Bool
fits [] cap = natural (normal cap)
fits (e ∷ es) cap = natural (normal (absolute e)) && fits es (cap ⊝ absolute e)

nat_abs_signed : (b : Bool) (ρ : List ℤ) (e : Expr) → pos zero ≤ℤ (eval ρ (signed b e)) → pos (nat_abs (eval ρ e)) ≡ eval ρ (signed b e)
nat_abs_signed true ρ e h = pos-nat_abs (eval ρ e) (yes_non_neg h)
nat_abs_signed false ρ e h = ap pos (sym (nat_abs_neg (eval ρ e))) ∙ pos-nat_abs (neg_ℤ (eval ρ e)) (yes_non_neg h)

fits_sound : (es : List Expr) (cap : Expr) → T (fits es cap) → (ns : List ℕ) → (pos (sum_of_absolutes (naturals ns) es)) ≤ℤ (eval (naturals ns) cap)
fits_sound [] cap t ns = nonneg cap t ns
fits_sound (e ∷ es) cap t ns = let (s, r) = both (natural (normal (absolute e))) (fits es (cap ⊝ absolute e)) t in
    deduce 4 (λ x n y c. (# 1 · (x ≐ y)) ∷ (# 1 · (n ≼ c ⊝ y)) ∷ [] ⊨ x ⊕ n ≼ c) tt
    (pos (nat_abs (eval (naturals ns) e))) (pos (sum_of_absolutes (naturals ns) es)) (eval (naturals ns) (absolute e)) (eval (naturals ns) cap)
    (nat_abs_signed (natural (normal e)) (naturals ns) e (nonneg (absolute e) s ns)) (fits_sound es (cap ⊝ absolute e) r ns)

pub absolutes : (n : ℕ) (q : Quoted Absolutes n) → T (fits (quoted n zero q).parts (quoted n zero q).cap) → EveryNatural n (Capped (quoted n zero q))
absolutes n q t = every_natural n (Capped (quoted n zero q)) (fits_sound (quoted n zero q).parts (quoted n zero q).cap t)
