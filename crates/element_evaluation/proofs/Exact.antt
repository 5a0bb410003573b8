-- Slopes and second derivatives over one denominator, rounded: polynomials of degree 2 and 1. Assumes nothing.
use mathlib.Core.Path.{◌≡◌}
use mathlib.Core.List.{List, [], ◌∷◌}
use Prim.Native.Nat.{ℕ, ◌*◌}
use lib.ListN.{get_or, take}
use lib.IntN.{ℤ, pos, ◌*ℤ◌}
use Rattle.integers.specs.Round.{round}
use Rattle.integers.proofs.Polynomial.{Expr, var, #◌, ◌⊕◌, ◌⊗◌}
use Rattle.integers.proofs.Solve.{◌≐◌, solve}
use Rattle.element_sibson.specs.Fraction.{Positive, ◌≈◌, positive, ◌*⁺◌, whole, ◌·ℚ◌, ◌÷◌}
use Rattle.element_sibson.specs.Cubic.{Cell, pixel, value, by_r, by_s, jet, bend}
use Rattle.element_sibson.proofs.Fractions.{≈_trans, ≈-÷, ≈-·}
use Rattle.element_sibson.proofs.Quote.{◌/ₑ◌, Cubicₑ, valueₑ, equal}
use Rattle.element_cell.specs.Coefficients.{listed, halves}
use Rattle.element_readings.specs.Reading.{tilt_x_of, tilt_y_of, bend_xx_of, bend_xy_of, bend_yy_of}
use Rattle.element_row_cubic.proofs.Heights.{rₑ, sₑ, offset, rounded_over}
use Rattle.element_evaluation.specs.LowDegree.{scaled_of, linear_at, quadratic_at}

-- ---- degrees 1 and 2

-- the variables 0 to 5 are the coefficients, 6 to 9 the offset
abbrev lowₑ : Expr → Expr → Expr → Cubicₑ
lowₑ c d e = record {
  c00 = var 0;
  c10 = var 1;
  c01 = var 2;
  c20 = c;
  c11 = d;
  c02 = e;
  c30 = # 0;
  c21 = # 0;
  c12 = # 0;
  c03 = # 0;
  divisor = # 2;
}

abbrev linearₑ : Expr
linearₑ = let a = var 6 in let w = var 7 in let b = var 8 in let h = var 9 in var 0 ⊗ (w ⊗ h) ⊕ var 1 ⊗ (a ⊗ h) ⊕ var 2 ⊗ (b ⊗ w)

abbrev quadraticₑ : Expr
quadraticₑ = let a = var 6 in let w = var 7 in let b = var 8 in let h = var 9 in
    w ⊗ h ⊗ linearₑ ⊕ (a ⊗ h ⊗ (var 3 ⊗ (a ⊗ h) ⊕ var 4 ⊗ (b ⊗ w)) ⊕ var 5 ⊗ (b ⊗ w ⊗ (b ⊗ w)))

module _ (C : Cell) (a b : ℕ) where
  linear_is : (c d e : ℤ) → value (halves (c ∷ d ∷ e ∷ [])) (pixel C a b) ≈ whole (linear_at (c ∷ d ∷ e ∷ []) (scaled_of C a b)) ÷ (positive 2 tt *⁺ (C.W *⁺ C.H))
  unfolding value halves linear_at scaled_of
  linear_is c d e = record {
    crossed = equal (valueₑ (lowₑ (# 0) (# 0) (# 0)) (rₑ 6) (sₑ 6)) (linearₑ /ₑ (# 1 ⊗ (# 2 ⊗ (var 7 ⊗ var 9)))) tt
        (c ∷ d ∷ e ∷ pos 0 ∷ pos 0 ∷ pos 0 ∷ offset C a b);
  }

  quadratic_is : (c d e f g h : ℤ) → let l = c ∷ d ∷ e ∷ f ∷ g ∷ h ∷ [] in
      value (halves l) (pixel C a b) ≈ whole (quadratic_at l (scaled_of C a b)) ÷ (positive 2 tt *⁺ (C.W *⁺ C.W *⁺ (C.H *⁺ C.H)))
  unfolding value halves linear_at quadratic_at scaled_of
  quadratic_is c d e f g h = record {
    crossed = equal (valueₑ (lowₑ (var 3) (var 4) (var 5)) (rₑ 6) (sₑ 6)) (quadraticₑ /ₑ (# 1 ⊗ (# 2 ⊗ (var 7 ⊗ var 7 ⊗ (var 9 ⊗ var 9))))) tt
        (c ∷ d ∷ e ∷ f ∷ g ∷ h ∷ offset C a b);
  }

-- ---- the readings, rounded

module _ (C : Cell) (k : List ℤ) (a b : ℕ) where
  abbrev k_at : ℕ → ℤ
  k_at i = get_or k i (pos 0)

  abbrev W : Positive
  W = C.W

  abbrev H : Positive
  H = C.H

  abbrev w : ℕ
  w = W.number

  abbrev h : ℕ
  h = H.number

  pub tilt_x_is : tilt_x_of C (halves k) (pixel C a b) ≡ round (quadratic_at (take 6 (listed (by_r (halves k)))) (scaled_of C a b)) (2 * (w * w * w * (h * h)))
  unfolding tilt_x_of jet by_r listed halves
  tilt_x_is = let n = quadratic_at (take 6 (listed (by_r (halves k)))) (scaled_of C a b) in
      rounded_over n (positive 2 tt *⁺ (W *⁺ W *⁺ W *⁺ (H *⁺ H)))
      (≈_trans {y = whole n ÷ (positive 2 tt *⁺ (W *⁺ W *⁺ (H *⁺ H))) ÷ W}
      (≈-÷ W (quadratic_is C a b (k_at 1) (pos 2 *ℤ k_at 3) (k_at 4) (pos 3 *ℤ k_at 6) (pos 2 *ℤ k_at 7) (k_at 8)))
      (record { crossed = solve 3 (λ n w h. n ⊗ (# 1 ⊗ (# 2 ⊗ (w ⊗ w ⊗ w ⊗ (h ⊗ h)))) ≐ n ⊗ (# 1 ⊗ (# 2 ⊗ (w ⊗ w ⊗ (h ⊗ h))) ⊗ w)) tt n (pos w) (pos h) }))

  pub tilt_y_is : tilt_y_of C (halves k) (pixel C a b) ≡ round (quadratic_at (take 6 (listed (by_s (halves k)))) (scaled_of C a b)) (2 * (w * w * (h * h * h)))
  unfolding tilt_y_of jet by_s listed halves
  tilt_y_is = let n = quadratic_at (take 6 (listed (by_s (halves k)))) (scaled_of C a b) in
      rounded_over n (positive 2 tt *⁺ (W *⁺ W *⁺ (H *⁺ H *⁺ H)))
      (≈_trans {y = whole n ÷ (positive 2 tt *⁺ (W *⁺ W *⁺ (H *⁺ H))) ÷ H}
      (≈-÷ H (quadratic_is C a b (k_at 2) (k_at 4) (pos 2 *ℤ k_at 5) (k_at 7) (pos 2 *ℤ k_at 8) (pos 3 *ℤ k_at 9)))
      (record { crossed = solve 3 (λ n w h. n ⊗ (# 1 ⊗ (# 2 ⊗ (w ⊗ w ⊗ (h ⊗ h ⊗ h)))) ≐ n ⊗ (# 1 ⊗ (# 2 ⊗ (w ⊗ w ⊗ (h ⊗ h))) ⊗ h)) tt n (pos w) (pos h) }))

  abbrev xx : List ℤ
  xx = take 3 (listed (by_r (by_r (halves k))))

  abbrev xy : List ℤ
  xy = take 3 (listed (by_s (by_r (halves k))))

  abbrev yy : List ℤ
  yy = take 3 (listed (by_s (by_s (halves k))))

  pub bend_xx_is : bend_xx_of C (halves k) (pixel C a b) ≡ round (pos 64 *ℤ linear_at xx (scaled_of C a b)) (2 * (w * w * w * h))
  unfolding bend_xx_of bend by_r listed halves
  bend_xx_is = let n = linear_at xx (scaled_of C a b) in
      rounded_over (pos 64 *ℤ n) (positive 2 tt *⁺ (W *⁺ W *⁺ W *⁺ H))
      (≈_trans {y = pos 64 ·ℚ (whole n ÷ (positive 2 tt *⁺ (W *⁺ H)) ÷ W ÷ W)}
      (≈-· (pos 64) (≈-÷ W (≈-÷ W (linear_is C a b (pos 2 *ℤ k_at 3) (pos 2 *ℤ (pos 3 *ℤ k_at 6)) (pos 2 *ℤ k_at 7)))))
      (record { crossed = solve 3 (λ n w h. # 64 ⊗ n ⊗ (# 1 ⊗ (# 2 ⊗ (w ⊗ w ⊗ w ⊗ h))) ≐ # 64 ⊗ n ⊗ (# 1 ⊗ (# 2 ⊗ (w ⊗ h)) ⊗ w ⊗ w)) tt n (pos w) (pos h) }))

  pub bend_xy_is : bend_xy_of C (halves k) (pixel C a b) ≡ round (pos 64 *ℤ linear_at xy (scaled_of C a b)) (2 * (w * w * (h * h)))
  unfolding bend_xy_of bend by_r by_s listed halves
  bend_xy_is = let n = linear_at xy (scaled_of C a b) in
      rounded_over (pos 64 *ℤ n) (positive 2 tt *⁺ (W *⁺ W *⁺ (H *⁺ H)))
      (≈_trans {y = pos 64 ·ℚ (whole n ÷ (positive 2 tt *⁺ (W *⁺ H)) ÷ W ÷ H)}
      (≈-· (pos 64) (≈-÷ H (≈-÷ W (linear_is C a b (k_at 4) (pos 2 *ℤ k_at 7) (pos 2 *ℤ k_at 8)))))
      (record { crossed = solve 3 (λ n w h. # 64 ⊗ n ⊗ (# 1 ⊗ (# 2 ⊗ (w ⊗ w ⊗ (h ⊗ h)))) ≐ # 64 ⊗ n ⊗ (# 1 ⊗ (# 2 ⊗ (w ⊗ h)) ⊗ w ⊗ h)) tt n (pos w) (pos h) }))

  pub bend_yy_is : bend_yy_of C (halves k) (pixel C a b) ≡ round (pos 64 *ℤ linear_at yy (scaled_of C a b)) (2 * (w * (h * h * h)))
  unfolding bend_yy_of bend by_s listed halves
  bend_yy_is = let n = linear_at yy (scaled_of C a b) in
      rounded_over (pos 64 *ℤ n) (positive 2 tt *⁺ (W *⁺ (H *⁺ H *⁺ H)))
      (≈_trans {y = pos 64 ·ℚ (whole n ÷ (positive 2 tt *⁺ (W *⁺ H)) ÷ H ÷ H)}
      (≈-· (pos 64) (≈-÷ H (≈-÷ H (linear_is C a b (pos 2 *ℤ k_at 5) (pos 2 *ℤ k_at 8) (pos 2 *ℤ (pos 3 *ℤ k_at 9))))))
      (record { crossed = solve 3 (λ n w h. # 64 ⊗ n ⊗ (# 1 ⊗ (# 2 ⊗ (w ⊗ (h ⊗ h ⊗ h)))) ≐ # 64 ⊗ n ⊗ (# 1 ⊗ (# 2 ⊗ (w ⊗ h)) ⊗ h ⊗ h)) tt n (pos w) (pos h) }))
