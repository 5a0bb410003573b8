-- The order of ℤ: a ≤ b is a difference in ℕ, the order is total, a < b is a + 1 ≤ b, sums and products of what is not negative;
-- and the same order on ℕ. An inequality that follows from others is `Deduce`'s. Assumes nothing.
use mathlib.Core.Path.{◌≡◌, refl, sym, ◌∙◌, ap, ap₂, subst, subst⁻¹}
use mathlib.Core.Logic.{◌⊎◌, inl, inr}
use mathlib.Core.Bool.{Bool, true, false, not, cond}
use Prim.Native.Nat.{ℕ, zero, suc, ◌+◌, ◌*◌, ◌-◌, ◌≤◌, ◌<◌}
use native.Mathlib.Nat.{le_antisymm}
use native.Mathlib.Omega.{arith}
use lib.Dec.{T, ltb, leb→le, le→leb, ltb→lt, lt→ltb, nltb→le, nleb→lt}
use lib.IntN.{ℤ, pos, negsuc, nat_abs, sub_ℕ, ◌+ℤ◌, ◌-ℤ◌, ◌*ℤ◌, +ℤ_idl, +ℤ_assoc}
use lib.Signed.{◌≤ℤ◌, ◌<ℤ◌, le_z, lt_z, le_z_yes, lt_z_yes, ≤ℤ_refl, <ℤ-≤ℤ_trans, clash_ℤ}
use Rattle.integers.proofs.Polynomial.{#◌, ◌⊕◌, ◌⊗◌, ◌⊝◌}
use Rattle.integers.proofs.Solve.{◌≐◌, solve}

-- ---- a difference of naturals

pub cond_ind : {A : Type 0} (c : Bool) (x y : A) (P : A → Type 0) → (T c → P x) → (T (not c) → P y) → P (cond c x y)
cond_ind true x y P f g = f tt
cond_ind false x y P f g = g tt

pub subℕ_ind : (a b : ℕ) (P : ℤ → Type 0) → (a < b → P (negsuc (b - suc a))) → (b ≤ a → P (pos (a - b))) → P (sub_ℕ a b)
subℕ_ind a b P f g = cond_ind (ltb a b) (negsuc (b - suc a)) (pos (a - b)) P (λ t. f (ltb→lt a b t)) (λ t. g (nltb→le a b t))

pub subℕ_pos : (a b c : ℕ) → b + c ≡ a → sub_ℕ a b ≡ pos c
subℕ_pos a b c e = subℕ_ind a b (λ z. z ≡ pos c) (λ h. absurd (omega arith)) (λ h. ap pos (omega arith))

pub subℕ_neg : (a b c : ℕ) → a + suc c ≡ b → sub_ℕ a b ≡ negsuc c
subℕ_neg a b c e = subℕ_ind a b (λ z. z ≡ negsuc c) (λ h. ap negsuc (omega arith)) (λ h. absurd (omega arith))

-- −1 − (−1 − a)
pub reflected : (a : ℕ) → negsuc 0 -ℤ negsuc a ≡ pos a
reflected a = subℕ_pos (suc a) 1 a (omega arith)

-- ---- an order is a difference

le_plus : (a : ℤ) (n : ℕ) → a ≤ℤ (a +ℤ pos n)
le_plus (pos x) n = le_z_yes (le→leb x (x + n) (omega arith))
le_plus (negsuc x) n = le_z_yes (subℕ_ind n (suc x) (λ z. T (le_z (negsuc x) z)) (λ h. le→leb (suc x - suc n) x (omega arith)) (λ h. tt))

lt_plus : (a : ℤ) (n : ℕ) → T (lt_z a (a +ℤ pos (suc n)))
lt_plus (pos x) n = lt→ltb x (x + suc n) (omega arith)
lt_plus (negsuc x) n = subℕ_ind (suc n) (suc x) (λ z. T (lt_z (negsuc x) z)) (λ h. lt→ltb (suc x - suc (suc n)) x (omega arith)) (λ h. tt)

difference : (a b : ℤ) → T (le_z a b) → (n : ℕ) × (b ≡ a +ℤ pos n)
difference (pos x) (pos y) t = let h : x ≤ y = leb→le x y t in (y - x, ap pos (omega arith))
difference (pos x) (negsuc y) t = absurd t
difference (negsuc x) (pos y) t = (y + suc x, sym (subℕ_pos (y + suc x) (suc x) y (omega arith)))
difference (negsuc x) (negsuc y) t = let h : y ≤ x = leb→le y x t in (x - y, sym (subℕ_neg (x - y) (suc x) y (omega arith)))

pub le_difference : {a b : ℤ} → a ≤ℤ b → (n : ℕ) × (b ≡ a +ℤ pos n)
le_difference {a} {b} h = difference a b h.le

pub le_of_difference : (a b : ℤ) (n : ℕ) → b ≡ a +ℤ pos n → a ≤ℤ b
le_of_difference a b n e = subst⁻¹ (λ x. a ≤ℤ x) e (le_plus a n)

pub lt_of_difference : (a b : ℤ) (n : ℕ) → b ≡ a +ℤ pos (suc n) → a <ℤ b
lt_of_difference a b n e = subst⁻¹ (λ x. a <ℤ x) e (lt_z_yes (lt_plus a n))

-- ---- the order

pub ≤ℤ_of_eq : {a b : ℤ} → a ≡ b → a ≤ℤ b
≤ℤ_of_eq {a} {b} e = subst (λ x. a ≤ℤ x) e (≤ℤ_refl a)

pub ≤ℤ_trans : {a b c : ℤ} → a ≤ℤ b → b ≤ℤ c → a ≤ℤ c
≤ℤ_trans {a} {b} {c} h k = let (m, p) = le_difference h in let (n, q) = le_difference k in
    le_of_difference a c (m + n) (q ∙ ap (λ x. x +ℤ pos n) p ∙ +ℤ_assoc a (pos m) (pos n))

antisymmetric : (a b : ℤ) → T (le_z a b) → T (le_z b a) → a ≡ b
antisymmetric (pos x) (pos y) h k = ap pos (le_antisymm (leb→le x y h) (leb→le y x k))
antisymmetric (pos x) (negsuc y) h k = absurd h
antisymmetric (negsuc x) (pos y) h k = absurd k
antisymmetric (negsuc x) (negsuc y) h k = ap negsuc (le_antisymm (leb→le x y k) (leb→le y x h))

pub ≤ℤ_antisym : {a b : ℤ} → a ≤ℤ b → b ≤ℤ a → a ≡ b
≤ℤ_antisym {a} {b} h k = antisymmetric a b h.le k.le

-- what a test that failed says
pub not_le_z : (a b : ℤ) → T (not (le_z a b)) → b <ℤ a
not_le_z (pos x) (pos y) t = lt_z_yes (lt→ltb y x (nleb→lt x y t))
not_le_z (pos x) (negsuc y) t = lt_z_yes tt
not_le_z (negsuc x) (pos y) t = absurd t
not_le_z (negsuc x) (negsuc y) t = lt_z_yes (lt→ltb x y (nleb→lt y x t))

pub ≤ℤ_or-> : (a b : ℤ) → (a ≤ℤ b) ⊎ (b <ℤ a)
≤ℤ_or-> a b = go (le_z a b) refl
  where
    go : (c : Bool) → le_z a b ≡ c → (a ≤ℤ b) ⊎ (b <ℤ a)
    go true e = inl (le_z_yes (subst T (sym e) tt))
    go false e = inr (not_le_z a b (subst (λ c. T (not c)) (sym e) tt))

suc_le : (a b : ℤ) → T (lt_z a b) → (a +ℤ pos 1) ≤ℤ b
suc_le (pos x) (pos y) t = le_z_yes (let h : x < y = ltb→lt x y t in le→leb (x + 1) y (omega arith))
suc_le (pos x) (negsuc y) t = absurd t
suc_le (negsuc x) (pos y) t = subℕ_ind 1 (suc x) (λ z. z ≤ℤ pos y) (λ h. le_z_yes tt) (λ h. le_z_yes (le→leb (1 - suc x) y (omega arith)))
suc_le (negsuc x) (negsuc y) t = let k : y < x = ltb→lt y x t in
    subℕ_ind 1 (suc x) (λ z. z ≤ℤ negsuc y) (λ h. le_z_yes (le→leb y (suc x - 2) (omega arith))) (λ h. absurd (omega arith))

pub <ℤ→suc≤ℤ : {a b : ℤ} → a <ℤ b → (a +ℤ pos 1) ≤ℤ b
<ℤ→suc≤ℤ {a} {b} h = suc_le a b h.lt

pub suc≤ℤ→<ℤ : {a b : ℤ} → (a +ℤ pos 1) ≤ℤ b → a <ℤ b
suc≤ℤ→<ℤ {a} {b} h = let (n, p) = le_difference h in lt_of_difference a b n (p ∙ +ℤ_assoc a (pos 1) (pos n) ∙ ap (λ k. a +ℤ pos k) (omega arith))

pub ≤ℤ-<ℤ_trans : {a b c : ℤ} → a ≤ℤ b → b <ℤ c → a <ℤ c
≤ℤ-<ℤ_trans {a} {b} {c} h k = go (≤ℤ_or-> c a)
  where
    go : (c ≤ℤ a) ⊎ (a <ℤ c) → a <ℤ c
    go (inl l) = clash_ℤ (<ℤ-≤ℤ_trans k l) h
    go (inr l) = l

pub <ℤ→≤ℤ : {a b : ℤ} → a <ℤ b → a ≤ℤ b
<ℤ→≤ℤ {a} h = ≤ℤ_trans (le_plus a 1) (<ℤ→suc≤ℤ h)

-- ---- what is not negative

pub pos_nonneg : (n : ℕ) → pos zero ≤ℤ pos n
pos_nonneg n = le_of_difference (pos zero) (pos n) n (sym (+ℤ_idl (pos n)))

pub nonneg_pos : {c : ℤ} → pos zero ≤ℤ c → (k : ℕ) × (c ≡ pos k)
nonneg_pos h = let (n, p) = le_difference h in (n, p ∙ +ℤ_idl (pos n))

pub nonneg-+ : {a b : ℤ} → pos zero ≤ℤ a → pos zero ≤ℤ b → pos zero ≤ℤ (a +ℤ b)
nonneg-+ ha hb = let (m, p) = nonneg_pos ha in let (n, q) = nonneg_pos hb in
    subst⁻¹ (λ x. pos zero ≤ℤ x) (ap₂ (λ x y. x +ℤ y) p q) (pos_nonneg (m + n))

pub nonneg-* : {a b : ℤ} → pos zero ≤ℤ a → pos zero ≤ℤ b → pos zero ≤ℤ (a *ℤ b)
nonneg-* ha hb = let (m, p) = nonneg_pos ha in let (n, q) = nonneg_pos hb in
    subst⁻¹ (λ x. pos zero ≤ℤ x) (ap₂ (λ x y. x *ℤ y) p q) (pos_nonneg (m * n))

-- a ≤ b by a difference that is not negative
pub le_by : {a b : ℤ} (d : ℤ) → b ≡ a +ℤ d → pos zero ≤ℤ d → a ≤ℤ b
le_by {a} {b} d e h = let (n, p) = nonneg_pos h in le_of_difference a b n (e ∙ ap (λ x. a +ℤ x) p)

pub nonneg_difference : {a b : ℤ} → a ≤ℤ b → pos zero ≤ℤ (b -ℤ a)
nonneg_difference {a} {b} h = let (n, p) = le_difference h in
    subst⁻¹ (λ x. pos zero ≤ℤ x) (ap (λ x. x -ℤ a) p ∙ solve 2 (λ a n. (a ⊕ n) ⊝ a ≐ n) tt a (pos n)) (pos_nonneg n)

pub *ℤ_mono_r : {a b c : ℤ} → pos zero ≤ℤ c → a ≤ℤ b → (a *ℤ c) ≤ℤ (b *ℤ c)
*ℤ_mono_r {a} {b} {c} hc h =
    le_by ((b -ℤ a) *ℤ c) (solve 3 (λ a b c. b ⊗ c ≐ a ⊗ c ⊕ (b ⊝ a) ⊗ c) tt a b c) (nonneg-* (nonneg_difference h) hc)

-- p d < (q + 1) d leaves p ≤ q
pub below_next : (p q : ℤ) (d : ℕ) → (p *ℤ pos d) <ℤ ((q +ℤ pos 1) *ℤ pos d) → p ≤ℤ q
below_next p q d h = go (≤ℤ_or-> p q)
  where
    go : (p ≤ℤ q) ⊎ (q <ℤ p) → p ≤ℤ q
    go (inl k) = k
    go (inr k) = clash_ℤ h (*ℤ_mono_r (pos_nonneg d) (<ℤ→suc≤ℤ k))

-- a factor above 0 cancels
pub ≤ℤ_cancel_r : {x y : ℤ} (k : ℕ) → zero < k → (x *ℤ pos k) ≤ℤ (y *ℤ pos k) → x ≤ℤ y
≤ℤ_cancel_r zero p h = absurd (omega arith)
≤ℤ_cancel_r {x} {y} (suc k) p h = below_next x y (suc k) (≤ℤ-<ℤ_trans h
    (lt_of_difference (y *ℤ pos (suc k)) ((y +ℤ pos 1) *ℤ pos (suc k)) k (solve 2 (λ y k. (y ⊕ # 1) ⊗ k ≐ y ⊗ k ⊕ k) tt y (pos (suc k)))))

pub *ℤ_cancel_r : {x y : ℤ} (k : ℕ) → zero < k → x *ℤ pos k ≡ y *ℤ pos k → x ≡ y
*ℤ_cancel_r k p e = ≤ℤ_antisym (≤ℤ_cancel_r k p (≤ℤ_of_eq e)) (≤ℤ_cancel_r k p (≤ℤ_of_eq (sym e)))

-- ---- the order of ℕ

pub pos_inj : {a b : ℕ} → pos a ≡ pos b → a ≡ b
pos_inj e = ap nat_abs e

pub ≤ℤ→≤ : {a b : ℕ} → pos a ≤ℤ pos b → a ≤ b
≤ℤ→≤ {a} {b} h = leb→le a b h.le

pub ≤→≤ℤ : {a b : ℕ} → a ≤ b → pos a ≤ℤ pos b
≤→≤ℤ {a} {b} h = le_z_yes (le→leb a b h)

pub <ℤ→< : {a b : ℕ} → pos a <ℤ pos b → a < b
<ℤ→< {a} {b} h = ltb→lt a b h.lt

pub <→<ℤ : {a b : ℕ} → a < b → pos a <ℤ pos b
<→<ℤ {a} {b} h = lt_z_yes (lt→ltb a b h)
