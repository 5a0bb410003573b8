-- Absolute bounds: how they pass through the operations of signed code, and that |z| ≤ N is −N ≤ z ≤ N. Assumes nothing.
use mathlib.Core.Path.{◌≡◌, refl, subst⁻¹}
use mathlib.Core.List.{[], ◌∷◌}
use Prim.Native.Nat.{ℕ, zero, suc, ◌+◌, ◌*◌, ◌/◌, ◌%◌, ◌≤◌, ◌<◌}
use native.Mathlib.Nat.{le_trans, le_refl, add-le-add, mul-le-mul, div-le_self, div-add-mod', le-div_iff_mul-le}
use native.Mathlib.Omega.{arith}
use lib.Dec.{le→leb, leb→le}
use lib.IntN.{ℤ, pos, negsuc, neg_ℤ, nat_abs, ◌+ℤ◌, ◌-ℤ◌, ◌*ℤ◌}
use lib.Signed.{◌≤ℤ◌, ◌<ℤ◌, le_z_yes, quot_z, shr_z}
use Rattle.integers.specs.Within.{◌within◌}
use Rattle.integers.proofs.Polynomial.{#◌, ⊖◌}
use Rattle.integers.proofs.Solve.{◌≼◌}
use Rattle.integers.proofs.Order.{subℕ_ind, ≤ℤ_trans, <ℤ→≤ℤ, pos_nonneg}
use Rattle.integers.proofs.Deduce.{◌·◌, ◌⊨◌, deduce}

-- ---- absolute values

pub nat_abs_neg : (z : ℤ) → nat_abs (neg_ℤ z) ≡ nat_abs z
nat_abs_neg (pos zero) = refl
nat_abs_neg (pos (suc n)) = refl
nat_abs_neg (negsuc n) = refl

pub nat_abs-+ : (a b : ℤ) → nat_abs (a +ℤ b) ≤ nat_abs a + nat_abs b
nat_abs-+ (pos a) (pos b) = omega arith
nat_abs-+ (pos a) (negsuc b) = subℕ_ind a (suc b) (λ z. nat_abs z ≤ a + suc b) (λ h. omega arith) (λ h. omega arith)
nat_abs-+ (negsuc a) (pos b) = subℕ_ind b (suc a) (λ z. nat_abs z ≤ suc a + b) (λ h. omega arith) (λ h. omega arith)
nat_abs-+ (negsuc a) (negsuc b) = omega arith

pub nat_abs-* : (a b : ℤ) → nat_abs (a *ℤ b) ≡ nat_abs a * nat_abs b
nat_abs-* (pos a) (pos b) = refl
nat_abs-* (pos a) (negsuc b) = nat_abs_neg (pos (a * suc b))
nat_abs-* (negsuc a) (pos b) = nat_abs_neg (pos (suc a * b))
nat_abs-* (negsuc a) (negsuc b) = refl

nat_abs_quot : (a b : ℤ) → nat_abs (quot_z a b) ≡ nat_abs a / nat_abs b
nat_abs_quot (pos a) (pos b) = refl
nat_abs_quot (pos a) (negsuc b) = nat_abs_neg (pos (a / suc b))
nat_abs_quot (negsuc a) (pos b) = nat_abs_neg (pos (suc a / b))
nat_abs_quot (negsuc a) (negsuc b) = refl

-- ---- bounds

pub is_within : (z : ℤ) {N : ℕ} → nat_abs z ≤ N → z within N
is_within z h = record { bound = h }

pub within_self : (z : ℤ) → z within nat_abs z
within_self z = is_within z (le_refl (nat_abs z))

pub within_mono : {z : ℤ} {M N : ℕ} → z within M → M ≤ N → z within N
within_mono {z} h k = is_within z (le_trans h.bound k)

pub within_neg : {a : ℤ} {A : ℕ} → a within A → neg_ℤ a within A
within_neg {a} {A} h = is_within (neg_ℤ a) (subst⁻¹ (λ n. n ≤ A) (nat_abs_neg a) h.bound)

pub within-+ : {a b : ℤ} {A B : ℕ} → a within A → b within B → (a +ℤ b) within (A + B)
within-+ {a} {b} h k = is_within (a +ℤ b) (le_trans (nat_abs-+ a b) (add-le-add h.bound k.bound))

pub within-- : {a b : ℤ} {A B : ℕ} → a within A → b within B → (a -ℤ b) within (A + B)
within-- h k = within-+ h (within_neg k)

pub within-* : {a b : ℤ} {A B : ℕ} → a within A → b within B → (a *ℤ b) within (A * B)
within-* {a} {b} {A} {B} h k = is_within (a *ℤ b) (subst⁻¹ (λ n. n ≤ A * B) (nat_abs-* a b) (mul-le-mul h.bound k.bound))

-- a quotient rounded toward zero, as the machine divides
pub within_quot : {a : ℤ} {A : ℕ} (b : ℤ) → a within A → quot_z a b within A
within_quot {a} {A} b h = is_within (quot_z a b) (subst⁻¹ (λ n. n ≤ A) (nat_abs_quot a b) (le_trans (div-le_self (nat_abs a) (nat_abs b)) h.bound))

div_mono : {a b : ℕ} (m : ℕ) → zero < m → a ≤ b → a / m ≤ b / m
div_mono {a} m p h = (le-div_iff_mul-le p).1 (let e : a / m * m + a % m ≡ a = div-add-mod' a m in omega arith)

-- a quotient rounded down, as the machine shifts to the right
pub within_shr : {a : ℤ} {A : ℕ} (m : ℕ) → zero < m → a within A → shr_z a m within (A / m + 1)
within_shr {a = pos a} m p h = is_within (pos (a / m)) (omega (arith, div_mono m p h.bound))
within_shr {a = negsuc a} {A} m p h = is_within (negsuc (a / m)) (let k : suc a ≤ A = h.bound in let l : a ≤ A = omega arith in omega (arith, div_mono m p l))

-- ---- a bound is a range

pub within_upper : {z : ℤ} {N : ℕ} → z within N → z ≤ℤ pos N
within_upper {z = pos n} {N} h = le_z_yes (le→leb n N h.bound)
within_upper {z = negsuc n} h = le_z_yes tt

pub within_lower : {z : ℤ} {N : ℕ} → z within N → neg_ℤ (pos N) ≤ℤ z
within_lower {z} {N} h = deduce 2 (λ z N. (# 1 · (⊖ z ≼ N)) ∷ [] ⊨ ⊖ N ≼ z) tt z (pos N) (within_upper (within_neg h))

pub within_of_range : {z : ℤ} (N : ℕ) → neg_ℤ (pos N) ≤ℤ z → z ≤ℤ pos N → z within N
within_of_range {z = pos n} N h k = is_within (pos n) (leb→le n N k.le)
within_of_range {z = negsuc n} zero h k = absurd h.le
within_of_range {z = negsuc n} (suc N) h k = is_within (negsuc n) (let s : n ≤ N = leb→le n N h.le in omega arith)

-- 0 ≤ r < d, as remainders are
pub within_below : {r d : ℤ} {D : ℕ} → pos zero ≤ℤ r → r <ℤ d → d within D → r within D
within_below {r} {d} {D} low high h = within_of_range D
    (deduce 2 (λ r D. (# 1 · (# 0 ≼ r)) ∷ (# 1 · (# 0 ≼ D)) ∷ [] ⊨ ⊖ D ≼ r) tt r (pos D) low (pos_nonneg D))
    (≤ℤ_trans (<ℤ→≤ℤ high) (within_upper h))
