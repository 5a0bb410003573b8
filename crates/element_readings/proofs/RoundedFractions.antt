-- A fraction rounded: order is kept, a whole number stays, and it moves by at most one half. Assumes nothing.
use mathlib.Core.Path.{◌≡◌, ◌∙◌, ap, subst₂}
use mathlib.Core.List.{[], ◌∷◌}
use Prim.Native.Nat.{◌*◌}
use native.Mathlib.Nat.{mul_comm, mul-pos}
use lib.Dec.{lit<}
use lib.IntN.{ℤ, pos, ◌*ℤ◌}
use lib.Signed.{◌≤ℤ◌}
use Rattle.integers.specs.Round.{round}
use Rattle.integers.proofs.Polynomial.{#◌, ◌⊕◌, ◌⊗◌, ◌⊝◌, ⊖◌}
use Rattle.integers.proofs.Solve.{◌≐◌, ◌≼◌, solve}
use Rattle.integers.proofs.Deduce.{◌·◌, ◌⊨◌, deduce}
use Rattle.integers.proofs.Bounds.{within_lower, within_upper}
use Rattle.integers.proofs.Rounding.{rounding_laws}
use Rattle.element_sibson.specs.Fraction.{ℚ, ◌≤ℚ◌, whole, half, ◌-ℚ◌}
use Rattle.element_readings.specs.Reading.{rounded, ◌withinℚ◌}

-- both over the product of the denominators
pub rounded-≤ : {x y : ℚ} → x ≤ℚ y → rounded x ≤ℤ rounded y
unfolding rounded
rounded-≤ {x} {y} h = let p = x.denominator in let q = y.denominator in subst₂ (λ a b. a ≤ℤ b)
    (rounding_laws.cancels x.numerator p.number p.above q.number q.above)
    (ap (round (y.numerator *ℤ pos p.number)) (mul_comm p.number q.number) ∙ rounding_laws.cancels y.numerator q.number q.above p.number p.above)
    (rounding_laws.monotone (x.numerator *ℤ pos q.number) (y.numerator *ℤ pos p.number) (p.number * q.number) (mul-pos p.above q.above) h.crossed)

pub whole_stays : (z : ℤ) → rounded (whole z) ≡ z
unfolding rounded
whole_stays z = ap (λ x. round x 1) (solve 1 (λ z. z ≐ z ⊗ # 1) tt z) ∙ rounding_laws.whole z 1 (lit< tt)

pub distances : (x : ℚ) → whole (rounded x) -ℚ x withinℚ half
unfolding rounded
distances x = let n = x.numerator in let d = x.denominator in let h = rounding_laws.half_unit n d.number d.above in record {
  lower = record {
    crossed = deduce 3 (λ q n d. (# 1 · (⊖ d ≼ # 2 ⊗ (q ⊗ d ⊝ n))) ∷ [] ⊨ ⊖ # 1 ⊗ # 1 ⊗ (# 1 ⊗ d) ≼ (q ⊗ d ⊕ ⊖ # 1 ⊗ n ⊗ # 1) ⊗ (# 1 ⊗ # 2)) tt
        (rounded x) n (pos d.number) (within_lower h);
  };
  upper = record {
    crossed = deduce 3 (λ q n d. (# 1 · (# 2 ⊗ (q ⊗ d ⊝ n) ≼ d)) ∷ [] ⊨ (q ⊗ d ⊕ ⊖ # 1 ⊗ n ⊗ # 1) ⊗ (# 1 ⊗ # 2) ≼ # 1 ⊗ (# 1 ⊗ d)) tt
        (rounded x) n (pos d.number) (within_upper h);
  };
}
