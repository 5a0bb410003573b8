-- Fractions: equality is an equivalence that the operations respect, and the order respects it; the laws. Assumes nothing.
use mathlib.Core.Path.{◌≡◌, refl, sym, ap}
use mathlib.Core.Logic.{◌↔◌, ◌⊎◌, inl, inr}
use mathlib.Core.Bool.{not}
use mathlib.Core.List.{List, [], ◌∷◌}
use Prim.Native.Nat.{ℕ, ◌*◌}
use native.Mathlib.Omega.{arith}
use lib.Dec.{T, lit<}
use lib.IntN.{ℤ, pos, neg_ℤ, nat_abs, ◌*ℤ◌}
use lib.Signed.{◌≤ℤ◌, ◌<ℤ◌, le_z_yes, clash_ℤ}
use Rattle.element_sibson.specs.Fraction.{Positive, ℚ, ◌≈◌, ◌≤ℚ◌, ◌<ℚ◌, ◌+ℚ◌, ◌-ℚ◌, ◌*ℚ◌, ◌·ℚ◌, ◌÷◌, leℚ, whole, half, complement}
use Rattle.element_sibson.specs.Sense.{FractionLaws}
use Rattle.integers.proofs.Polynomial.{var, #◌, ◌⊕◌, ◌⊗◌}
use Rattle.integers.proofs.Solve.{Claim, ◌≐◌, ◌≼◌}
use Rattle.integers.proofs.Deduce.{◌·◌, ◌⊨◌, deduce, certified_sound}
use Rattle.integers.proofs.Order.{*ℤ_cancel_r, ≤ℤ_cancel_r, *ℤ_mono_r, pos_nonneg, ≤ℤ_antisym, ≤ℤ_of_eq, ≤ℤ_or->, <ℤ→≤ℤ, not_le_z}
use Rattle.element_sibson.proofs.Quote.{Quotient, wholeₑ, complementₑ, ◌+ₑ◌, ◌-ₑ◌, ◌*ₑ◌, ◌·ₑ◌, ◌÷ₑ◌, ◌≈ₑ◌, ◌≤ₑ◌, equal, fractionₑ, fraction}

-- ---- variables: four fractions

abbrev xₑ : Quotient
xₑ = fractionₑ 0

abbrev yₑ : Quotient
yₑ = fractionₑ 2

abbrev zₑ : Quotient
zₑ = fractionₑ 4

abbrev wₑ : Quotient
wₑ = fractionₑ 6

-- ---- order and equality: an order, and an equivalence

pub ≤_trans : {x y z : ℚ} → x ≤ℚ y → y ≤ℚ z → x ≤ℚ z
≤_trans {x} {y} {z} h k = record {
  crossed = ≤ℤ_cancel_r y.denominator.number y.denominator.above
      (deduce 6 (λ a p b q c r. (# 1 · (a ⊗ q ⊗ r ≼ b ⊗ p ⊗ r)) ∷ (# 1 · (b ⊗ r ⊗ p ≼ c ⊗ q ⊗ p)) ∷ [] ⊨ a ⊗ r ⊗ q ≼ c ⊗ p ⊗ q) tt
      x.numerator (pos x.denominator.number) y.numerator (pos y.denominator.number) z.numerator (pos z.denominator.number)
      (*ℤ_mono_r (pos_nonneg z.denominator.number) h.crossed) (*ℤ_mono_r (pos_nonneg x.denominator.number) k.crossed));
}

pub ≤_antisym : {x y : ℚ} → x ≤ℚ y → y ≤ℚ x → x ≈ y
≤_antisym h k = record { crossed = ≤ℤ_antisym h.crossed k.crossed }

pub ≤_of-≈ : {x y : ℚ} → x ≈ y → x ≤ℚ y
≤_of-≈ e = record { crossed = ≤ℤ_of_eq e.crossed }

pub ≤_left : {x y z : ℚ} → x ≈ y → y ≤ℚ z → x ≤ℚ z
≤_left e h = ≤_trans (≤_of-≈ e) h

pub ≤_right : {x y z : ℚ} → x ≤ℚ y → y ≈ z → x ≤ℚ z
≤_right h e = ≤_trans h (≤_of-≈ e)

pub ≈_refl : (x : ℚ) → x ≈ x
≈_refl x = record { crossed = refl }

pub ≈_sym : {x y : ℚ} → x ≈ y → y ≈ x
≈_sym e = record { crossed = sym e.crossed }

pub ≈_trans : {x y z : ℚ} → x ≈ y → y ≈ z → x ≈ z
≈_trans e f = ≤_antisym (≤_trans (≤_of-≈ e) (≤_of-≈ f)) (≤_trans (≤_of-≈ (≈_sym f)) (≤_of-≈ (≈_sym e)))

-- ---- the operations respect equality

pub ≈-+ : {x x' y y' : ℚ} → x ≈ x' → y ≈ y' → x +ℚ y ≈ x' +ℚ y'
≈-+ {x} {x'} {y} {y'} e f = record {
  crossed = certified_sound ((zₑ.den ⊗ wₑ.den · (xₑ ≈ₑ yₑ)) ∷ (xₑ.den ⊗ yₑ.den · (zₑ ≈ₑ wₑ)) ∷ []) (xₑ +ₑ zₑ ≈ₑ yₑ +ₑ wₑ) tt
      (fraction x (fraction x' (fraction y (fraction y' [])))) e.crossed f.crossed;
}

pub ≈-* : {x x' y y' : ℚ} → x ≈ x' → y ≈ y' → x *ℚ y ≈ x' *ℚ y'
≈-* {x} {x'} {y} {y'} e f = record {
  crossed = certified_sound ((zₑ.num ⊗ wₑ.den · (xₑ ≈ₑ yₑ)) ∷ (yₑ.num ⊗ xₑ.den · (zₑ ≈ₑ wₑ)) ∷ []) (xₑ *ₑ zₑ ≈ₑ yₑ *ₑ wₑ) tt
      (fraction x (fraction x' (fraction y (fraction y' [])))) e.crossed f.crossed;
}

pub ≈-· : (c : ℤ) {x x' : ℚ} → x ≈ x' → c ·ℚ x ≈ c ·ℚ x'
≈-· c {x} {x'} e = record {
  crossed = certified_sound ((var 4 · (xₑ ≈ₑ yₑ)) ∷ []) (var 4 ·ₑ xₑ ≈ₑ var 4 ·ₑ yₑ) tt (fraction x (fraction x' (c ∷ []))) e.crossed;
}

pub ≈-÷ : (n : Positive) {x x' : ℚ} → x ≈ x' → x ÷ n ≈ x' ÷ n
≈-÷ n {x} {x'} e = record {
  crossed = certified_sound ((var 4 · (xₑ ≈ₑ yₑ)) ∷ []) (xₑ ÷ₑ var 4 ≈ₑ yₑ ÷ₑ var 4) tt (fraction x (fraction x' (pos n.number ∷ []))) e.crossed;
}

pub ≈-- : {x x' y y' : ℚ} → x ≈ x' → y ≈ y' → x -ℚ y ≈ x' -ℚ y'
≈-- e f = ≈-+ e (≈-· (neg_ℤ (pos 1)) f)

pub ≈_complement : {x y : ℚ} → x ≈ y → complement x ≈ complement y
≈_complement e = ≈-- (≈_refl (whole (pos 1))) e

-- ---- one, no difference, and quotients

pub ≈_once : (x : ℚ) → x ≈ pos 1 ·ℚ x
≈_once x = record { crossed = equal xₑ (# 1 ·ₑ xₑ) tt (fraction x []) }

-- equal fractions have no difference
pub ≈_minus : {x y : ℚ} → x ≈ y → x -ℚ y ≈ whole (pos 0)
≈_minus {x} {y} e = record {
  crossed = certified_sound ((# 1 · (xₑ ≈ₑ yₑ)) ∷ []) (xₑ -ₑ yₑ ≈ₑ wholeₑ (# 0)) tt (fraction x (fraction y [])) e.crossed;
}

pub ≈_of_minus : {x y : ℚ} → x -ℚ y ≈ whole (pos 0) → x ≈ y
≈_of_minus {x} {y} e = record {
  crossed = certified_sound ((# 1 · (xₑ -ₑ yₑ ≈ₑ wholeₑ (# 0))) ∷ []) (xₑ ≈ₑ yₑ) tt (fraction x (fraction y [])) e.crossed;
}

pub ≈-÷_minus : (n : Positive) {x : ℚ} (y z : ℚ) → x ≈ y -ℚ z → x ÷ n ≈ y ÷ n -ℚ z ÷ n
≈-÷_minus n y z e = ≈_trans {y = (y -ℚ z) ÷ n} (≈-÷ n e)
    (record { crossed = equal ((xₑ -ₑ yₑ) ÷ₑ var 4) (xₑ ÷ₑ var 4 -ₑ yₑ ÷ₑ var 4) tt (fraction y (fraction z (pos n.number ∷ []))) })

-- the same divisor cancels
pub ≈-÷_cancel : (n : Positive) {x y : ℚ} → x ÷ n ≈ y ÷ n → x ≈ y
≈-÷_cancel n {x} {y} e = record {
  crossed = *ℤ_cancel_r n.number n.above
      (certified_sound ((# 1 · (xₑ ÷ₑ var 4 ≈ₑ yₑ ÷ₑ var 4)) ∷ []) (xₑ.num ⊗ yₑ.den ⊗ var 4 ≐ yₑ.num ⊗ xₑ.den ⊗ var 4) tt
      (fraction x (fraction y (pos n.number ∷ []))) e.crossed);
}

pub ≈-÷_zero : (n : Positive) {x : ℚ} → x ÷ n ≈ whole (pos 0) → x ≈ whole (pos 0)
≈-÷_zero n {x} e = record {
  crossed = certified_sound ((# 1 · (xₑ ÷ₑ var 2 ≈ₑ wholeₑ (# 0))) ∷ []) (xₑ ≈ₑ wholeₑ (# 0)) tt (fraction x (pos n.number ∷ [])) e.crossed;
}

pub ≈-÷_none : (n : Positive) → whole (pos 0) ÷ n ≈ whole (pos 0)
≈-÷_none n = record { crossed = equal (wholeₑ (# 0) ÷ₑ var 0) (wholeₑ (# 0)) tt (pos n.number ∷ []) }

-- ---- complements and the half

pub complement_complement : (x : ℚ) → complement (complement x) ≈ x
complement_complement x = record { crossed = equal (complementₑ (complementₑ xₑ)) xₑ tt (fraction x []) }

pub half_complement : half ≈ complement half
half_complement = record { crossed = refl }

pub ≤_complement : {x y : ℚ} → x ≤ℚ y → complement y ≤ℚ complement x
≤_complement {x} {y} h = record {
  crossed = certified_sound ((# 1 · (xₑ ≤ₑ yₑ)) ∷ []) (complementₑ yₑ ≤ₑ complementₑ xₑ) tt (fraction x (fraction y [])) h.crossed;
}

-- x ≤ 1 − y and 1 − x ≤ y, turned round
pub ≤_swap : {x y : ℚ} → x ≤ℚ complement y → y ≤ℚ complement x
≤_swap {x} {y} h = ≤_left (≈_sym (complement_complement y)) (≤_complement h)

pub ≤_swap' : {x y : ℚ} → complement x ≤ℚ y → complement y ≤ℚ x
≤_swap' {x} {y} h = ≤_right (≤_complement h) (complement_complement x)

-- x ≤ 1 − x is x ≤ 1/2, and 1 − x ≤ x is 1/2 ≤ x
pub below_half : {x : ℚ} → x ≤ℚ complement x → x ≤ℚ half
below_half {x} h = record {
  crossed = ≤ℤ_cancel_r x.denominator.number x.denominator.above
      (certified_sound ((# 1 · (xₑ ≤ₑ complementₑ xₑ)) ∷ []) (xₑ.num ⊗ # 2 ⊗ xₑ.den ≼ # 1 ⊗ xₑ.den ⊗ xₑ.den) tt (fraction x []) h.crossed);
}

pub above_half : {x : ℚ} → complement x ≤ℚ x → half ≤ℚ x
above_half {x} h =
    ≤_left half_complement (≤_right (≤_complement (below_half (≤_right h (≈_sym (complement_complement x))))) (complement_complement x))

-- as a test
pub ≤_yes : (x y : ℚ) → T (leℚ x y) → x ≤ℚ y
≤_yes x y t = record { crossed = le_z_yes t }

pub ≤_test : {x y : ℚ} → x ≤ℚ y → T (leℚ x y)
≤_test h = h.crossed.le

pub ≤_no : (x y : ℚ) → T (not (leℚ x y)) → y ≤ℚ x
≤_no x y t = record { crossed = <ℤ→≤ℤ (not_le_z (x.numerator *ℤ pos y.denominator.number) (y.numerator *ℤ pos x.denominator.number) t) }

-- ---- laws

whole_order_lem : (a b : ℤ) → (whole a ≤ℚ whole b) ↔ (a ≤ℤ b)
whole_order_lem a b = (λ h. ≤ℤ_cancel_r 1 (lit< tt) h.crossed, λ h. record { crossed = *ℤ_mono_r (pos_nonneg 1) h })

quotient_order_lem : (x y : ℚ) (n : Positive) → (x ≤ℚ y) ↔ (x ÷ n ≤ℚ y ÷ n)
quotient_order_lem x y n = (
  λ h. record { crossed = certified_sound ((# 1 · timesₑ) ∷ []) (xₑ ÷ₑ var 4 ≤ₑ yₑ ÷ₑ var 4) tt given (*ℤ_mono_r (pos_nonneg n.number) h.crossed) },
  λ h. record {
    crossed = ≤ℤ_cancel_r n.number n.above (certified_sound ((# 1 · (xₑ ÷ₑ var 4 ≤ₑ yₑ ÷ₑ var 4)) ∷ []) timesₑ tt given h.crossed);
  },
)
  where
    timesₑ : Claim
    timesₑ = xₑ.num ⊗ yₑ.den ⊗ var 4 ≼ yₑ.num ⊗ xₑ.den ⊗ var 4

    given : List ℤ
    given = fraction x (fraction y (pos n.number ∷ []))

sum_order_lem : (x y z : ℚ) → x ≤ℚ y → x +ℚ z ≤ℚ y +ℚ z
sum_order_lem x y z h = record {
  crossed = certified_sound ((# 1 · (xₑ.num ⊗ yₑ.den ⊗ (zₑ.den ⊗ zₑ.den) ≼ yₑ.num ⊗ xₑ.den ⊗ (zₑ.den ⊗ zₑ.den))) ∷ []) (xₑ +ₑ zₑ ≤ₑ yₑ +ₑ zₑ) tt
      (fraction x (fraction y (fraction z []))) (*ℤ_mono_r (pos_nonneg (z.denominator.number * z.denominator.number)) h.crossed);
}

strict_order_lem : (x y : ℚ) → (x <ℚ y) ↔ (¬ (y ≤ℚ x))
strict_order_lem x y = (λ h k. clash_ℤ h.crossed k.crossed, λ n. go n (≤ℤ_or-> a b))
  where
    a : ℤ
    a = y.numerator *ℤ pos x.denominator.number

    b : ℤ
    b = x.numerator *ℤ pos y.denominator.number

    go : ¬ (y ≤ℚ x) → (a ≤ℤ b) ⊎ (b <ℤ a) → x <ℚ y
    go n (inl h) = absurd (n (record { crossed = h }))
    go n (inr h) = record { crossed = h }

pub fraction_laws : FractionLaws
fraction_laws = record {
  reflexive = ≈_refl;
  symmetric = λ x y e. ≈_sym e;
  transitive = λ x y z e f. ≈_trans e f;
  sums = λ x x' y y' e f. ≈-+ e f;
  products = λ x x' y y' e f. ≈-* e f;
  distinct = λ e. let h : ◌≡◌ {A = ℕ} 0 1 = ap nat_abs e.crossed in absurd (omega arith);
  whole_sums = λ a b. record { crossed = equal (wholeₑ (var 0 ⊕ var 1)) (wholeₑ (var 0) +ₑ wholeₑ (var 1)) tt (a ∷ b ∷ []) };
  whole_products = λ a b. record { crossed = refl };
  distributive = λ x y z. record { crossed = equal (xₑ *ₑ (yₑ +ₑ zₑ)) (xₑ *ₑ yₑ +ₑ xₑ *ₑ zₑ) tt (fraction x (fraction y (fraction z []))) };
  multiples = λ c x. record { crossed = equal (var 2 ·ₑ xₑ) (wholeₑ (var 2) *ₑ xₑ) tt (fraction x (c ∷ [])) };
  quotients = λ x n. record { crossed = equal (xₑ ÷ₑ var 2 *ₑ wholeₑ (var 2)) xₑ tt (fraction x (pos n.number ∷ [])) };
  differences = λ x y. record { crossed = equal (xₑ -ₑ yₑ +ₑ yₑ) xₑ tt (fraction x (fraction y [])) };
  halves = record { crossed = refl };
  order = λ x y. (λ e. (≤_of-≈ e, ≤_of-≈ (≈_sym e)), λ h. ≤_antisym h.0 h.1);
  tests = λ x y. (≤_yes x y, λ h. ≤_test h);
  transitive_order = λ x y z h k. ≤_trans h k;
  whole_order = whole_order_lem;
  quotient_order = quotient_order_lem;
  sum_order = sum_order_lem;
  strict_order = strict_order_lem;
}
