-- The rounding rule on fractions: x + ½ rounded down. Assumes nothing.
use mathlib.Core.Path.{◌≡◌}
use mathlib.Core.List.{[], ◌∷◌}
use lib.IntN.{ℤ, pos, ◌+ℤ◌}
use Rattle.integers.proofs.Polynomial.{#◌, ◌⊕◌, ◌⊗◌}
use Rattle.integers.proofs.Solve.{◌≐◌, ◌≼◌, ◌≺◌}
use Rattle.integers.proofs.Deduce.{◌·◌, ◌⊨◌, deduce}
use Rattle.integers.proofs.Rounding.{rounding_laws}
use Rattle.element_sibson.specs.Fraction.{ℚ, ◌≈◌, ◌≤ℚ◌, ◌<ℚ◌, ◌+ℚ◌, whole, half}
use Rattle.element_readings.specs.Reading.{rounded}

-- n and d are numerator and denominator of x; its sum with ½ is (2n + d) / 2d
module _ (x : ℚ) where
  abbrev n : ℤ
  n = x.numerator

  abbrev d : ℤ
  d = pos x.denominator.number

  pub rounded_down_lem : (whole (rounded x) ≤ℚ x +ℚ half) × (x +ℚ half <ℚ whole (rounded x +ℤ pos 1))
  unfolding rounded
  rounded_down_lem = (
    record {
      crossed = deduce 3 (λ q n d. (# 1 · (q ⊗ (# 2 ⊗ d) ≼ # 2 ⊗ n ⊕ d)) ∷ [] ⊨ q ⊗ (d ⊗ (# 1 ⊗ # 2)) ≼ (n ⊗ (# 1 ⊗ # 2) ⊕ # 1 ⊗ d) ⊗ # 1) tt
          (rounded x) n d (rounding_laws.down n x.denominator.number x.denominator.above);
    },
    record {
      crossed = deduce 3 (λ q n d. (# 1 · (# 2 ⊗ n ⊕ d ≺ (q ⊕ # 1) ⊗ (# 2 ⊗ d))) ∷ [] ⊨ (n ⊗ (# 1 ⊗ # 2) ⊕ # 1 ⊗ d) ⊗ # 1 ≺ (q ⊕ # 1) ⊗ (d ⊗ (# 1 ⊗ # 2))) tt
          (rounded x) n d (rounding_laws.below n x.denominator.number x.denominator.above);
    },
  )

  pub only_one_lem : (q : ℤ) → whole q ≤ℚ x +ℚ half → x +ℚ half <ℚ whole (q +ℤ pos 1) → rounded x ≡ q
  unfolding rounded
  only_one_lem q l h = rounding_laws.only n x.denominator.number x.denominator.above q
      (deduce 3 (λ q n d. (# 1 · (q ⊗ (d ⊗ (# 1 ⊗ # 2)) ≼ (n ⊗ (# 1 ⊗ # 2) ⊕ # 1 ⊗ d) ⊗ # 1)) ∷ [] ⊨ q ⊗ (# 2 ⊗ d) ≼ # 2 ⊗ n ⊕ d) tt q n d l.crossed)
      (deduce 3 (λ q n d. (# 1 · ((n ⊗ (# 1 ⊗ # 2) ⊕ # 1 ⊗ d) ⊗ # 1 ≺ (q ⊕ # 1) ⊗ (d ⊗ (# 1 ⊗ # 2)))) ∷ [] ⊨ # 2 ⊗ n ⊕ d ≺ (q ⊕ # 1) ⊗ (# 2 ⊗ d)) tt q n d h.crossed)

  -- n/d = z + 1/2
  pub tie : (z : ℤ) → x ≈ whole z +ℚ half → rounded x ≡ z +ℤ pos 1
  unfolding rounded
  tie z e = rounding_laws.tie n x.denominator.number x.denominator.above z
      (deduce 3 (λ n d z. (# 1 · (n ⊗ (# 1 ⊗ (# 1 ⊗ # 2)) ≐ (z ⊗ (# 1 ⊗ # 2) ⊕ # 1 ⊗ # 1) ⊗ d)) ∷ [] ⊨ # 2 ⊗ n ≐ (# 2 ⊗ z ⊕ # 1) ⊗ d) tt n d z e.crossed)
