-- A fraction rounded: it moves by at most one half, equality and order are kept, a whole number stays, and so does a bound by a whole number. Assumes nothing.
use mathlib.Core.Path.{◌≡◌, ◌∙◌, subst}
use mathlib.Core.List.{[], ◌∷◌}
use Prim.Native.Nat.{ℕ}
use lib.IntN.{ℤ, pos, neg_ℤ}
use lib.Signed.{◌≤ℤ◌}
use Rattle.integers.specs.Within.{◌within◌}
use Rattle.integers.proofs.Polynomial.{#◌, ◌⊗◌, ⊖◌}
use Rattle.integers.proofs.Solve.{◌≼◌}
use Rattle.integers.proofs.Deduce.{◌·◌, ◌⊨◌, deduce}
use Rattle.integers.proofs.Order.{≤ℤ_antisym}
use Rattle.integers.proofs.Bounds.{within_of_range}
use Rattle.element_sibson.specs.Fraction.{ℚ, ◌≈◌, ◌≤ℚ◌, whole, ◌·ℚ◌}
use Rattle.element_sibson.proofs.Fractions.{≈_sym, ≤_of-≈, ≤_trans}
use Rattle.element_readings.proofs.RoundedFractions.{rounded-≤, whole_stays, distances}
use Rattle.element_readings.specs.Reading.{rounded, level_of, tilt_x_of, tilt_y_of, bend_xx_of, bend_xy_of, bend_yy_of, ◌withinℚ◌, HalfUnit}

pub half_unit : HalfUnit
unfolding level_of tilt_x_of tilt_y_of bend_xx_of bend_xy_of bend_yy_of
half_unit = record {
  distances = distances;
  levels = λ C f P. distances _;
  tilts_x = λ C f P. distances _;
  tilts_y = λ C f P. distances _;
  bends_xx = λ C f P. distances _;
  bends_xy = λ C f P. distances _;
  bends_yy = λ C f P. distances _;
}

pub rounded-≈ : {x y : ℚ} → x ≈ y → rounded x ≡ rounded y
rounded-≈ e = ≤ℤ_antisym (rounded-≤ (≤_of-≈ e)) (rounded-≤ (≤_of-≈ (≈_sym e)))

pub rounded_whole : {x : ℚ} {z : ℤ} → x ≈ whole z → rounded x ≡ z
rounded_whole {z = z} e = rounded-≈ e ∙ whole_stays z

-- −M ≤ −y ≤ x ≤ y ≤ M
pub rounded_within : (M : ℕ) {x y : ℚ} → x withinℚ y → y ≤ℚ whole (pos M) → rounded x within M
rounded_within M {x} {y} h k = within_of_range M
    (subst (λ z. z ≤ℤ rounded x) (whole_stays (neg_ℤ (pos M))) (rounded-≤ (≤_trans least h.lower)))
    (subst (λ z. rounded x ≤ℤ z) (whole_stays (pos M)) (rounded-≤ (≤_trans h.upper k)))
  where
    least : whole (neg_ℤ (pos M)) ≤ℚ neg_ℤ (pos 1) ·ℚ y
    least = record {
      crossed = deduce 3 (λ b q m. (# 1 · (b ⊗ # 1 ≼ m ⊗ q)) ∷ [] ⊨ ⊖ m ⊗ q ≼ ⊖ # 1 ⊗ b ⊗ # 1) tt y.numerator (pos y.denominator.number) (pos M) k.crossed;
    }
