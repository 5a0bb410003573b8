-- A sum of fractions that is rounded, beside its parts rounded: over one denominator they are a sum of whole numerators. Assumes nothing.
use mathlib.Core.Path.{subst⁻¹}
use mathlib.Core.List.{[]}
use lib.IntN.{ℤ, ◌+ℤ◌, ◌-ℤ◌}
use Rattle.integers.specs.Within.{◌within◌}
use Rattle.integers.proofs.Polynomial.{◌⊕◌, ◌⊗◌, eval}
use Rattle.integers.proofs.RoundedSums.{rounded_sums}
use Rattle.element_sibson.specs.Fraction.{Positive, ℚ, ◌≈◌, ◌+ℚ◌}
use Rattle.element_sibson.proofs.Fractions.{≈_trans}
use Rattle.element_sibson.proofs.Quote.{Quotient, ◌/ₑ◌, ◌+ₑ◌, equal, fractionₑ, fraction}
use Rattle.element_readings.specs.Reading.{rounded}
use Rattle.element_readings.proofs.Rounded.{rounded-≈}

-- ---- fractions that are equal to some with one denominator

abbrev over : ℤ → Positive → ℚ
over n d = record { numerator = n; denominator = d }

module _ (d : Positive) where
  two : {x y z : ℚ} (m n : ℤ) → x ≈ over m d → y ≈ over n d → z ≈ over (m +ℤ n) d → (rounded z -ℤ (rounded x +ℤ rounded y)) within 1
  unfolding rounded
  two m n e f s = subst⁻¹ (λ v. v within 1) (λ i. rounded-≈ s i -ℤ (rounded-≈ e i +ℤ rounded-≈ f i)) (rounded_sums.two m n d.number d.above)

  three : {w x y z : ℚ} (l m n : ℤ) → w ≈ over l d → x ≈ over m d → y ≈ over n d → z ≈ over (l +ℤ m +ℤ n) d →
      (rounded z -ℤ (rounded w +ℤ rounded x +ℤ rounded y)) within 1
  unfolding rounded
  three l m n e f g s = subst⁻¹ (λ v. v within 1) (λ i. rounded-≈ s i -ℤ (rounded-≈ e i +ℤ rounded-≈ f i +ℤ rounded-≈ g i))
      (rounded_sums.three l m n d.number d.above)

-- ---- any fractions

abbrev xₑ : Quotient
xₑ = fractionₑ 0

abbrev yₑ : Quotient
yₑ = fractionₑ 2

abbrev wₑ : Quotient
wₑ = fractionₑ 4

pub two_rounded_lem : (x y : ℚ) {z : ℚ} → z ≈ x +ℚ y → (rounded z -ℤ (rounded x +ℤ rounded y)) within 1
two_rounded_lem x y e =
    let ρ = fraction x (fraction y []) in let d = xₑ.den ⊗ yₑ.den in let m = xₑ.num ⊗ yₑ.den in let n = yₑ.num ⊗ xₑ.den in
    two (x +ℚ y).denominator (eval ρ m) (eval ρ n) (record { crossed = equal xₑ (m /ₑ d) tt ρ }) (record { crossed = equal yₑ (n /ₑ d) tt ρ }) e

pub three_rounded_lem : (w x y : ℚ) {z : ℚ} → z ≈ w +ℚ x +ℚ y → (rounded z -ℤ (rounded w +ℤ rounded x +ℤ rounded y)) within 1
three_rounded_lem w x y e =
    let ρ = fraction x (fraction y (fraction w [])) in let d = wₑ.den ⊗ xₑ.den ⊗ yₑ.den in
    let l = wₑ.num ⊗ (xₑ.den ⊗ yₑ.den) in let m = xₑ.num ⊗ (wₑ.den ⊗ yₑ.den) in let n = yₑ.num ⊗ (wₑ.den ⊗ xₑ.den) in
    three (w +ℚ x +ℚ y).denominator (eval ρ l) (eval ρ m) (eval ρ n)
    (record { crossed = equal wₑ (l /ₑ d) tt ρ }) (record { crossed = equal xₑ (m /ₑ d) tt ρ }) (record { crossed = equal yₑ (n /ₑ d) tt ρ })
    (≈_trans e (record { crossed = equal (wₑ +ₑ xₑ +ₑ yₑ) ((l ⊕ m ⊕ n) /ₑ d) tt ρ }))
