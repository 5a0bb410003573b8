-- Fractions between −y and y: ratios, quotients and multiples of them. Assumes nothing.
use mathlib.Core.List.{[], ◌∷◌}
use Prim.Native.Nat.{ℕ, ◌*◌, ◌≤◌}
use native.Mathlib.Omega.{arith}
use lib.Dec.{lit<}
use lib.IntN.{ℤ, pos, ◌*ℤ◌}
use lib.Signed.{◌≤ℤ◌}
use Rattle.integers.specs.Within.{◌within◌}
use Rattle.integers.proofs.Polynomial.{#◌, ◌⊗◌, ⊖◌}
use Rattle.integers.proofs.Solve.{◌≼◌}
use Rattle.integers.proofs.Deduce.{◌·◌, ◌⊨◌, deduce}
use Rattle.integers.proofs.Order.{pos_nonneg, *ℤ_mono_r, ≤ℤ_cancel_r, ≤→≤ℤ}
use Rattle.integers.proofs.Bounds.{within_lower, within_upper}
use Rattle.element_sibson.specs.Fraction.{Positive, ℚ, ◌≈◌, ◌≤ℚ◌, ◌*⁺◌, whole, ◌·ℚ◌, ◌÷◌}
use Rattle.element_sibson.proofs.Fractions.{≈_sym, ≤_left, ≤_right}
use Rattle.element_readings.specs.Reading.{◌withinℚ◌}

pub within-≈ : {x x' y : ℚ} → x ≈ x' → x' withinℚ y → x withinℚ y
within-≈ e h = record { lower = ≤_right h.lower (≈_sym e); upper = ≤_left e h.upper }

-- |z| ≤ S c leaves |z / d c| ≤ S / d
pub ratio_within : (z : ℤ) (S : ℕ) (d c : Positive) → z within (S * c.number) → record { numerator = z; denominator = d *⁺ c } withinℚ whole (pos S) ÷ d
ratio_within z S d c h = record {
  lower = record {
    crossed = deduce 4 (λ z s c d. (# 1 · (⊖ (s ⊗ c) ⊗ d ≼ z ⊗ d)) ∷ [] ⊨ ⊖ # 1 ⊗ s ⊗ (d ⊗ c) ≼ z ⊗ (# 1 ⊗ d)) tt
        z (pos S) (pos c.number) (pos d.number) (*ℤ_mono_r (pos_nonneg d.number) (within_lower h));
  };
  upper = record {
    crossed = deduce 4 (λ z s c d. (# 1 · (z ⊗ d ≼ s ⊗ c ⊗ d)) ∷ [] ⊨ z ⊗ (# 1 ⊗ d) ≼ s ⊗ (d ⊗ c)) tt
        z (pos S) (pos c.number) (pos d.number) (*ℤ_mono_r (pos_nonneg d.number) (within_upper h));
  };
}

-- S/d ≤ M
pub at_most : (S M : ℕ) (d : Positive) → S ≤ M * d.number → whole (pos S) ÷ d ≤ℚ whole (pos M)
at_most S M d h = record { crossed = ≤→≤ℤ (omega arith) }

pub within-÷ : (n : Positive) {x y : ℚ} → x withinℚ y → x ÷ n withinℚ y
within-÷ n {x} {y} h = record {
  lower = record {
    crossed = deduce 5 (λ a p b q n. (# 1 · (⊖ # 1 ⊗ b ⊗ p ≼ a ⊗ q)) ∷ (# 1 · (# 1 ⊗ (b ⊗ p) ≼ n ⊗ (b ⊗ p))) ∷ [] ⊨ ⊖ # 1 ⊗ b ⊗ (p ⊗ n) ≼ a ⊗ q) tt
        x.numerator p y.numerator q (pos n.number) h.lower.crossed more;
  };
  upper = record {
    crossed = deduce 5 (λ a p b q n. (# 1 · (a ⊗ q ≼ b ⊗ p)) ∷ (# 1 · (# 1 ⊗ (b ⊗ p) ≼ n ⊗ (b ⊗ p))) ∷ [] ⊨ a ⊗ q ≼ b ⊗ (p ⊗ n)) tt
        x.numerator p y.numerator q (pos n.number) h.upper.crossed more;
  };
}
  where
    p : ℤ
    p = pos x.denominator.number

    q : ℤ
    q = pos y.denominator.number

    -- −y ≤ y
    natural : pos 0 ≤ℤ (y.numerator *ℤ p)
    natural = ≤ℤ_cancel_r 2 (lit< tt) (deduce 4 (λ a p b q. (# 1 · (⊖ # 1 ⊗ b ⊗ p ≼ a ⊗ q)) ∷ (# 1 · (a ⊗ q ≼ b ⊗ p)) ∷ [] ⊨ # 0 ⊗ # 2 ≼ b ⊗ p ⊗ # 2) tt
        x.numerator p y.numerator q h.lower.crossed h.upper.crossed)

    more : (pos 1 *ℤ (y.numerator *ℤ p)) ≤ℤ (pos n.number *ℤ (y.numerator *ℤ p))
    more = *ℤ_mono_r natural (≤→≤ℤ n.above)

pub within-· : (c : ℕ) {x y : ℚ} → x withinℚ y → pos c ·ℚ x withinℚ pos c ·ℚ y
within-· c {x} {y} h = record {
  lower = record {
    crossed = deduce 5 (λ a p b q c. (# 1 · (⊖ # 1 ⊗ b ⊗ p ⊗ c ≼ a ⊗ q ⊗ c)) ∷ [] ⊨ ⊖ # 1 ⊗ (c ⊗ b) ⊗ p ≼ c ⊗ a ⊗ q) tt
        x.numerator (pos x.denominator.number) y.numerator (pos y.denominator.number) (pos c) (*ℤ_mono_r (pos_nonneg c) h.lower.crossed);
  };
  upper = record {
    crossed = deduce 5 (λ a p b q c. (# 1 · (a ⊗ q ⊗ c ≼ b ⊗ p ⊗ c)) ∷ [] ⊨ c ⊗ a ⊗ q ≼ c ⊗ b ⊗ p) tt
        x.numerator (pos x.denominator.number) y.numerator (pos y.denominator.number) (pos c) (*ℤ_mono_r (pos_nonneg c) h.upper.crossed);
  };
}
