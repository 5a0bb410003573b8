-- Operands of signed code: what the machine reads, the number that it stands for, and an absolute bound of that number. The bound of a result
-- is computed from those of its operands, so each thing that signed code asks is one line: `asks w64 (x ⊠ y) tt` that a product fits,
-- `gives w64 (x ⊠ y) tt` that it is the product of the numbers, `less x y t` what a test that passed says. Assumes nothing.
use mathlib.Core.Path.{◌≡◌, refl, sym, ◌∙◌, subst, subst⁻¹}
use mathlib.Core.Bool.{Bool, true, false, not}
use Prim.Native.Nat.{ℕ, ◌+◌, ◌/◌, ◌^◌, ◌≤◌, ◌<◌}
use native.Mathlib.Nat.{lt_of_le_of_lt, le_trans}
use native.Mathlib.Omega.{arith}
use lib.Dec.{T, ltb, lit<, ltb→lt}
use lib.IntN.{ℤ, pos, negsuc, neg_ℤ, nat_abs, ◌+ℤ◌, ◌-ℤ◌, ◌*ℤ◌, +ℤ_idl}
use lib.Signed.{mag, quot_z, shr_z, lt_z, le_z, ◌<ℤ◌, ◌≤ℤ◌, lt_z_yes, lt_z_no, le_z_yes, non_neg, yes_non_neg, nat_abs-le}
use mir.Syntax.{Width}
use mir.Val.{Fits, SFits, bits, hbits, to_z, of_z}
use mir.ValLaws.{to_z-of_z, to_z_pos}
use Rattle.integers.specs.Within.{◌within◌}
use Rattle.integers.proofs.Bounds.{is_within, within_self, within_neg, within-+, within--, within-*, within_quot, within_shr}

pub record Operand : Type 0 where
  pub read : ℤ
  pub number : ℤ
  pub bound : ℕ
  pub reads : read ≡ number
  pub bounded : number within bound

-- ---- what fits

mag_le : (z : ℤ) → mag z ≤ nat_abs z
mag_le (pos n) = omega arith
mag_le (negsuc n) = omega arith

pub fits : {w : Width} {z : ℤ} {N : ℕ} → z within N → N < 2 ^ hbits w → SFits w z
fits {z = z} h k = record { sfits = lt_of_le_of_lt (le_trans (mag_le z) h.bound) k }

-- what the operation that makes the operand asks at the width w
pub asks : (w : Width) (e : Operand) → T (ltb e.bound (2 ^ hbits w)) → SFits w e.read
asks w e t = subst⁻¹ (λ z. SFits w z) e.reads (fits e.bounded (lit< t))

-- what the machine reads has the bound too
pub read_within : (e : Operand) → e.read within e.bound
read_within e = subst⁻¹ (λ z. z within e.bound) e.reads e.bounded

-- what is stored at the width w and read back
pub gives : (w : Width) (e : Operand) → T (ltb e.bound (2 ^ hbits w)) → to_z w (of_z w e.read) ≡ e.number
gives w e t = to_z-of_z w e.read (asks w e t) ∙ e.reads

-- a call's result that is returned as it is: `unchanged w64 c.f.ok`
pub unchanged : (w : Width) {z : ℤ} → mag z < 2 ^ hbits w → to_z w (of_z w z) ≡ z
unchanged w {z} h = to_z-of_z w z (record { sfits = h })

-- ---- where operands come from

abbrev pub literal : ℤ → Operand
literal z = record { read = z; number = z; bound = nat_abs z; reads = refl; bounded = within_self z }

-- a result that is stored at the width w
abbrev pub stored : (w : Width) (e : Operand) → T (ltb e.bound (2 ^ hbits w)) → Operand
stored w e t = record { read = to_z w (of_z w e.read); number = e.number; bound = e.bound; reads = gives w e t; bounded = e.bounded }

-- a parameter, a field or an element whose bound is known
abbrev pub known : (w : Width) {z : ℤ} {N : ℕ} → z within N → T (ltb N (2 ^ hbits w)) → Operand
known w {z} {N} h t = record { read = to_z w (of_z w z); number = z; bound = N; reads = to_z-of_z w z (fits h (lit< t)); bounded = h }

-- one of which nothing is known but its width
abbrev pub any : (w : Width) {z : ℤ} → SFits w z → Operand
any w {z} f = record { read = to_z w (of_z w z); number = z; bound = 2 ^ hbits w; reads = to_z-of_z w z f; bounded = is_within z (nat_abs-le z f.sfits) }

-- an unsigned number that was cast to the width w
abbrev pub unsigned : (w : Width) {u N : ℕ} → u ≤ N → T (ltb N (2 ^ hbits w)) → Operand
unsigned w {u} {N} h t = record { read = to_z w u; number = pos u; bound = N; reads = to_z_pos w u (lt_of_le_of_lt h (lit< t)); bounded = is_within (pos u) h }

-- what a call returned, x, which its contract says is z
abbrev pub returned : (w : Width) {x z : ℤ} {N : ℕ} → x ≡ z → z within N → T (ltb N (2 ^ hbits w)) → Operand
returned w {x} {z} {N} p h t = stored w (record { read = x; number = z; bound = N; reads = p; bounded = h }) t

-- the same operand with another bound of its number
abbrev pub rebound : (e : Operand) {N : ℕ} → e.number within N → Operand
rebound e {N} h = record { read = e.read; number = e.number; bound = N; reads = e.reads; bounded = h }

-- ---- operations

-- an operation on two operands, and a bound of its result
abbrev pub operate : (f : ℤ → ℤ → ℤ) (x y : Operand) {N : ℕ} → f x.number y.number within N → Operand
operate f x y {N} h = record {
  read = f x.read y.read;
  number = f x.number y.number;
  bound = N;
  reads = (λ i. f (x.reads i) (y.reads i));
  bounded = h;
}

infixl 60 ◌⊞◌ ◌⊟◌
infixl 70 ◌⊠◌ ◌⊘◌
abbrev pub ◌⊞◌ : Operand → Operand → Operand
x ⊞ y = operate ◌+ℤ◌ x y (within-+ x.bounded y.bounded)

abbrev pub ◌⊟◌ : Operand → Operand → Operand
x ⊟ y = operate ◌-ℤ◌ x y (within-- x.bounded y.bounded)

abbrev pub ◌⊠◌ : Operand → Operand → Operand
x ⊠ y = operate ◌*ℤ◌ x y (within-* x.bounded y.bounded)

-- −x, which the machine has as 0 − x
abbrev pub opposite : Operand → Operand
opposite x = record {
  read = pos 0 -ℤ x.read;
  number = neg_ℤ x.number;
  bound = x.bound;
  reads = (λ i. pos 0 -ℤ x.reads i) ∙ +ℤ_idl (neg_ℤ x.number);
  bounded = within_neg x.bounded;
}

-- rounded toward zero
abbrev pub ◌⊘◌ : Operand → Operand → Operand
x ⊘ y = operate quot_z x y (within_quot y.number x.bounded)

-- x >> k, where m is 2 ^ k: rounded down
abbrev pub shifted : Operand → (m : ℕ) → T (ltb 0 m) → Operand
shifted x m t = record { read = shr_z x.read m; number = shr_z x.number m; bound = x.bound / m + 1; reads = (λ i. shr_z (x.reads i) m); bounded = within_shr m (lit< t) x.bounded }

-- a divisor above 0 has bits above 0
pub bits_positive : (w : Width) {d : ℤ} → pos 0 <ℤ d → 0 < of_z w d
bits_positive w {d = pos n} h = ltb→lt 0 n h.lt
bits_positive w {d = negsuc n} h = absurd h.lt

-- ---- tests

passed : {t : Bool} → t ≡ true → T t
passed e = subst T (sym e) tt

failed : {t : Bool} → t ≡ false → T (not t)
failed e = subst (λ t. T (not t)) (sym e) tt

module _ (x y : Operand) where
  less_is : lt_z x.read y.read ≡ lt_z x.number y.number
  less_is = λ i. lt_z (x.reads i) (y.reads i)

  at_most_is : le_z x.read y.read ≡ le_z x.number y.number
  at_most_is = λ i. le_z (x.reads i) (y.reads i)

  pub less : lt_z x.read y.read ≡ true → x.number <ℤ y.number
  less e = lt_z_yes (passed (sym less_is ∙ e))

  pub not_less : lt_z x.read y.read ≡ false → y.number ≤ℤ x.number
  not_less e = lt_z_no (failed (sym less_is ∙ e))

  pub at_most : le_z x.read y.read ≡ true → x.number ≤ℤ y.number
  at_most e = le_z_yes (passed (sym at_most_is ∙ e))

-- ---- casts to an unsigned width, of a number that is not negative

pub asks_unsigned : (w : Width) (e : Operand) → pos 0 ≤ℤ e.number → T (ltb e.bound (2 ^ bits w)) → T (non_neg e.read) × Fits w (nat_abs e.read)
asks_unsigned w e h t =
    subst⁻¹ (λ z. T (non_neg z) × Fits w (nat_abs z)) e.reads (yes_non_neg h, record { fits = lt_of_le_of_lt e.bounded.bound (lit< t) })
