-- Fractions and cubics as expressions, so that what is claimed of them can be decided as an identity over ℤ. Assumes nothing.
use mathlib.Core.Path.{◌≡◌, ap}
use mathlib.Core.Bool.{Bool, ◌&&◌}
use mathlib.Core.List.{List, ◌∷◌}
use lib.Dec.{T}
use lib.IntN.{ℤ, pos, ◌*ℤ◌}
use Prim.Native.Nat.{ℕ, ◌+◌}
use Rattle.integers.proofs.Polynomial.{Expr, var, #◌, ◌⊕◌, ◌⊗◌, ⊖◌, eval}
use Rattle.integers.proofs.Solve.{Claim, ◌≐◌, ◌≼◌, Holds, same, same_sound}
use Rattle.integers.proofs.Deduce.{both}
use Rattle.element_sibson.specs.Fraction.{Positive, ℚ}
use Rattle.element_sibson.specs.Cubic.{Point, Cubic, Power, one, r¹, s¹, r², rs, s², r³, r²s, rs², s³, cubic_of, Jet, ◌≋◌}
use Rattle.element_sibson.specs.Piece.{Piece, top, right, bottom, left}
use Rattle.element_sibson.specs.Element.{column, exchange}

-- ---- fractions

infix 20 ◌≈ₑ◌ ◌≤ₑ◌
infixl 60 ◌+ₑ◌ ◌-ₑ◌
infixl 70 ◌*ₑ◌ ◌·ₑ◌ ◌÷ₑ◌
infix 80 ◌/ₑ◌
pub record Quotient : Type 0 where
  pub num : Expr
  pub den : Expr

abbrev pub ◌/ₑ◌ : Expr → Expr → Quotient
a /ₑ b = record { num = a; den = b }

abbrev pub wholeₑ : Expr → Quotient
wholeₑ a = a /ₑ # 1

abbrev pub ◌+ₑ◌ : Quotient → Quotient → Quotient
x +ₑ y = (x.num ⊗ y.den ⊕ y.num ⊗ x.den) /ₑ (x.den ⊗ y.den)

abbrev pub ◌*ₑ◌ : Quotient → Quotient → Quotient
x *ₑ y = (x.num ⊗ y.num) /ₑ (x.den ⊗ y.den)

abbrev pub ◌·ₑ◌ : Expr → Quotient → Quotient
c ·ₑ x = (c ⊗ x.num) /ₑ x.den

abbrev pub ◌÷ₑ◌ : Quotient → Expr → Quotient
x ÷ₑ n = x.num /ₑ (x.den ⊗ n)

abbrev pub ◌-ₑ◌ : Quotient → Quotient → Quotient
x -ₑ y = x +ₑ ⊖ # 1 ·ₑ y

abbrev pub ◌≈ₑ◌ : Quotient → Quotient → Claim
x ≈ₑ y = x.num ⊗ y.den ≐ y.num ⊗ x.den

abbrev pub ◌≤ₑ◌ : Quotient → Quotient → Claim
x ≤ₑ y = x.num ⊗ y.den ≼ y.num ⊗ x.den

abbrev pub complementₑ : Quotient → Quotient
complementₑ x = wholeₑ (# 1) -ₑ x

-- is 0
abbrev pub nil : Expr → Claim
nil e = e ≐ # 0

-- ---- cubics

pub record Cubicₑ : Type 0 where
  pub c00 : Expr
  pub c10 : Expr
  pub c01 : Expr
  pub c20 : Expr
  pub c11 : Expr
  pub c02 : Expr
  pub c30 : Expr
  pub c21 : Expr
  pub c12 : Expr
  pub c03 : Expr
  pub divisor : Expr

abbrev pub coefficientₑ : Cubicₑ → Power → Expr
coefficientₑ f one = f.c00
coefficientₑ f r¹ = f.c10
coefficientₑ f s¹ = f.c01
coefficientₑ f r² = f.c20
coefficientₑ f rs = f.c11
coefficientₑ f s² = f.c02
coefficientₑ f r³ = f.c30
coefficientₑ f r²s = f.c21
coefficientₑ f rs² = f.c12
coefficientₑ f s³ = f.c03

abbrev pub cubic_ofₑ : (Power → Expr) → Expr → Cubicₑ
cubic_ofₑ c d = record { c00 = c one; c10 = c r¹; c01 = c s¹; c20 = c r²; c11 = c rs; c02 = c s²; c30 = c r³; c21 = c r²s; c12 = c rs²; c03 = c s³; divisor = d }

abbrev pub valueₑ : Cubicₑ → Quotient → Quotient → Quotient
valueₑ f r s =
    (wholeₑ f.c00 +ₑ f.c10 ·ₑ r +ₑ f.c01 ·ₑ s
    +ₑ f.c20 ·ₑ (r *ₑ r) +ₑ f.c11 ·ₑ (r *ₑ s) +ₑ f.c02 ·ₑ (s *ₑ s)
    +ₑ f.c30 ·ₑ (r *ₑ r *ₑ r) +ₑ f.c21 ·ₑ (r *ₑ r *ₑ s) +ₑ f.c12 ·ₑ (r *ₑ s *ₑ s) +ₑ f.c03 ·ₑ (s *ₑ s *ₑ s))
    ÷ₑ f.divisor

abbrev pub by_rₑ : Cubicₑ → Cubicₑ
by_rₑ f = record {
  c00 = f.c10;
  c10 = # 2 ⊗ f.c20;
  c01 = f.c11;
  c20 = # 3 ⊗ f.c30;
  c11 = # 2 ⊗ f.c21;
  c02 = f.c12;
  c30 = # 0;
  c21 = # 0;
  c12 = # 0;
  c03 = # 0;
  divisor = f.divisor;
}

abbrev pub by_sₑ : Cubicₑ → Cubicₑ
by_sₑ f = record {
  c00 = f.c01;
  c10 = f.c11;
  c01 = # 2 ⊗ f.c02;
  c20 = f.c21;
  c11 = # 2 ⊗ f.c12;
  c02 = # 3 ⊗ f.c03;
  c30 = # 0;
  c21 = # 0;
  c12 = # 0;
  c03 = # 0;
  divisor = f.divisor;
}

abbrev pub transposedₑ : Cubicₑ → Cubicₑ
transposedₑ f = cubic_ofₑ (λ p. coefficientₑ f (exchange p)) f.divisor

abbrev pub flippedₑ : Cubicₑ → Cubicₑ
flippedₑ f = record {
  c00 = f.c00 ⊕ f.c01 ⊕ f.c02 ⊕ f.c03;
  c10 = f.c10 ⊕ f.c11 ⊕ f.c12;
  c01 = ⊖ (f.c01 ⊕ # 2 ⊗ f.c02 ⊕ # 3 ⊗ f.c03);
  c20 = f.c20 ⊕ f.c21;
  c11 = ⊖ (f.c11 ⊕ # 2 ⊗ f.c12);
  c02 = f.c02 ⊕ # 3 ⊗ f.c03;
  c30 = f.c30;
  c21 = ⊖ f.c21;
  c12 = f.c12;
  c03 = ⊖ f.c03;
  divisor = f.divisor;
}

-- a quoted cubic at given numbers, over a divisor
abbrev pub evaluated : List ℤ → Cubicₑ → Positive → Cubic
evaluated ρ f d = cubic_of (λ p. eval ρ (coefficientₑ f p)) d

-- the square term along a piece's edge
abbrev pub squareₑ : Piece → Cubicₑ → Expr
squareₑ top f = (by_sₑ f).c20 ⊕ (by_sₑ f).c21 ⊗ # 0
squareₑ right f = (by_rₑ f).c02 ⊕ (by_rₑ f).c12 ⊗ # 1
squareₑ bottom f = (by_sₑ f).c20 ⊕ (by_sₑ f).c21 ⊗ # 1
squareₑ left f = (by_rₑ f).c02 ⊕ (by_rₑ f).c12 ⊗ # 0

-- ---- heights and slopes

abbrev pub Jetₑ : Type 0
Jetₑ = Jet Quotient

-- equal fractions, decided
abbrev pub alike : Quotient → Quotient → Bool
alike x y = same (x.num ⊗ y.den) (y.num ⊗ x.den)

pub equal : (x y : Quotient) → T (alike x y) → (ρ : List ℤ) → Holds (x ≈ₑ y) ρ
equal x y t ρ = same_sound (x.num ⊗ y.den) (y.num ⊗ x.den) t ρ

-- three expressions at given numbers, and whether three are the same
abbrev pub three : List ℤ → Jet Expr → Jet ℤ
three ρ a = record { height = eval ρ a.height; x_slope = eval ρ a.x_slope; y_slope = eval ρ a.y_slope }

abbrev pub same_three : Jet Expr → Jet Expr → Bool
same_three a b = same a.height b.height && (same a.x_slope b.x_slope && same a.y_slope b.y_slope)

pub same_three_lem : (a b : Jet Expr) → T (same_three a b) → (ρ : List ℤ) → three ρ a ≡ three ρ b
same_three_lem a b t ρ =
    let (h, u) = both (same a.height b.height) (same a.x_slope b.x_slope && same a.y_slope b.y_slope) t in
    let (x, y) = both (same a.x_slope b.x_slope) (same a.y_slope b.y_slope) u in
    λ i. record {
      height = same_sound a.height b.height h ρ i;
      x_slope = same_sound a.x_slope b.x_slope x ρ i;
      y_slope = same_sound a.y_slope b.y_slope y ρ i;
    }

-- equal jets are three equations, crosswise
abbrev across : Jetₑ → Jetₑ → Jet Expr
across j k = record { height = j.height.num ⊗ k.height.den; x_slope = j.x_slope.num ⊗ k.x_slope.den; y_slope = j.y_slope.num ⊗ k.y_slope.den }

abbrev pub crosswise : Jet ℚ → Jet ℚ → Jet ℤ
crosswise j k = record {
  height = j.height.numerator *ℤ pos k.height.denominator.number;
  x_slope = j.x_slope.numerator *ℤ pos k.x_slope.denominator.number;
  y_slope = j.y_slope.numerator *ℤ pos k.y_slope.denominator.number;
}

pub decided : (j k : Jetₑ) → T (same_three (across j k) (across k j)) → (ρ : List ℤ) → three ρ (across j k) ≡ three ρ (across k j)
decided j k = same_three_lem (across j k) (across k j)

pub jets : {j k : Jet ℚ} → crosswise j k ≡ crosswise k j → j ≋ k
jets e = record {
  heights = record { crossed = ap (λ x. x.height) e };
  x_slopes = record { crossed = ap (λ x. x.x_slope) e };
  y_slopes = record { crossed = ap (λ x. x.y_slope) e };
}

-- ---- any cubic and any point: from variable i on the coefficients and the divisor, or the coordinates

abbrev pub cubicₑ : ℕ → Cubicₑ
cubicₑ i = cubic_ofₑ (λ p. var (i + column p)) (var (i + 10))

abbrev pub fractionₑ : ℕ → Quotient
fractionₑ i = var i /ₑ var (i + 1)

abbrev pub cubic : Cubic → List ℤ → List ℤ
cubic f others = f.c00 ∷ f.c10 ∷ f.c01 ∷ f.c20 ∷ f.c11 ∷ f.c02 ∷ f.c30 ∷ f.c21 ∷ f.c12 ∷ f.c03 ∷ pos f.divisor.number ∷ others

abbrev pub fraction : ℚ → List ℤ → List ℤ
fraction x others = x.numerator ∷ pos x.denominator.number ∷ others

-- a cubic, then a point, then others
abbrev pub anyₑ : Cubicₑ
anyₑ = cubicₑ 0

abbrev pub rₑ : Quotient
rₑ = fractionₑ 11

abbrev pub sₑ : Quotient
sₑ = fractionₑ 13

abbrev pub any : Cubic → Point → List ℤ → List ℤ
any f P others = cubic f (fraction P.r (fraction P.s others))
