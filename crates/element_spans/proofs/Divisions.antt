-- Quotients rounded down and up, by products: what lies below them, and which number they are. Assumes nothing.
use Prim.Native.Nat.{ℕ, suc, ◌+◌, ◌*◌, ◌-◌, ◌/◌, ◌≤◌, ◌<◌}
use mathlib.Core.Path.{◌≡◌, sym, ◌∙◌, ap}
use mathlib.Core.Logic.{◌↔◌}
use native.Mathlib.Decide.{dec_le}
use native.Mathlib.Nat.{le_refl, le-div_iff_mul-le, suc-mul, add-mul}
use native.Mathlib.Omega.{arith}
use Rattle.std.specs.Int.{div_ceil}
use Rattle.std.proofs.lemmas.Grind.{div_ceil_times}
use Rattle.element_spans.specs.Span.{ceiling}

module _ {a m d : ℕ} (positive : 0 < d) where
  pub below_floor : a < suc (m / d) ↔ a * d ≤ m
  below_floor = ((λ h. (le-div_iff_mul-le positive).0 (omega arith)), (λ h. let l = (le-div_iff_mul-le {x = a} {y = m} positive).1 h in omega arith))

  pub below_ceiling : a < ceiling m d ↔ a * d < m
  unfolding ceiling
  below_ceiling =
      ((λ h. omega (arith, suc-mul a d, (le-div_iff_mul-le positive).0 h)), (λ h. (le-div_iff_mul-le positive).1 (omega (arith, suc-mul a d))))

  -- and what does not
  pub from_floor : suc (m / d) ≤ a → m < a * d
  from_floor l = elim (dec_le (a * d) m) [ yes h ↦ let g = below_floor.1 h in absurd (omega arith) | no h ↦ omega arith ]

  pub from_ceiling : ceiling m d ≤ a → m ≤ a * d
  from_ceiling l = elim (dec_le m (a * d)) [ yes h ↦ h | no h ↦ let g = below_ceiling.1 (omega arith) in absurd (omega arith) ]

-- m is less than a divisor above what it is rounded down to
pub above_floor : (m : ℕ) {d : ℕ} → 0 < d → m < suc (m / d) * d
above_floor m positive = from_floor positive (le_refl (suc (m / _)))

-- the number x with x d ≤ m < (x + 1) d
pub floor_is : {m d : ℕ} → 0 < d → (x : ℕ) → x * d ≤ m → m < suc x * d → x ≡ m / d
floor_is {m} {d} positive x l h =
    let low : x < suc (m / d) = (below_floor positive).1 l in
    elim (dec_le (m / d) x) [
      | yes k ↦ omega arith
      | no k ↦ let g : suc x * d ≤ m = (below_floor positive).0 (omega arith) in absurd (omega arith)
    ]

-- the number x with m ≤ x d < m + d
pub ceiling_is : {m d : ℕ} → 0 < d → (x : ℕ) → m ≤ x * d → x * d < m + d → x ≡ ceiling m d
unfolding ceiling
ceiling_is {m} {d} positive x l h = floor_is positive x (omega arith) (omega (arith, suc-mul x d))

-- the library's quotient rounded up
pub div_ceil_is : (m : ℕ) {d : ℕ} → 0 < d → div_ceil m d ≡ ceiling m d
div_ceil_is m positive = let times = div_ceil_times m _ positive in ceiling_is positive (div_ceil m _) times.0 times.1

module _ (m : ℕ) {d : ℕ} (positive : 0 < d) where
  pub floor_low : m / d * d ≤ m
  floor_low = (below_floor positive).0 (le_refl (suc (m / d)))

  pub ceiling_high : ceiling m d * d < m + d
  unfolding ceiling
  ceiling_high = omega (arith, positive, (below_floor {a = ceiling m d} {m = m + d - 1} positive).0 (le_refl (suc (ceiling m d))))

  pub floor_most : (x : ℕ) → m ≤ x * d → m / d ≤ x
  floor_most x l = elim (dec_le (m / d) x) [ yes h ↦ h | no h ↦ let g : suc x * d ≤ m = (below_floor positive).0 (omega arith) in absurd (omega (arith, suc-mul x d)) ]

  pub ceiling_most : (x : ℕ) → m ≤ x * d → ceiling m d ≤ x
  ceiling_most x l = elim (dec_le (ceiling m d) x) [ yes h ↦ h | no h ↦ let g : x * d < m = (below_ceiling positive).0 (omega arith) in absurd (omega arith) ]

  -- seen from x: m / d rounded one way is as far from x as x − m / d, rounded the other way, is from 0
  module _ (x : ℕ) (l : m ≤ x * d) where
    pub floor_mirrored : x - ceiling m d ≡ (x * d - m) / d
    floor_mirrored = floor_is positive (x - ceiling m d) (omega (arith, facts)) (omega (arith, facts, suc-mul (x - ceiling m d) d))
      where
        facts : ((x - ceiling m d) * d + ceiling m d * d ≡ x * d) × (m ≤ ceiling m d * d) × (ceiling m d * d < m + d)
        facts = (sym (add-mul (x - ceiling m d) (ceiling m d) d) ∙ ap (λ n. n * d) (let k = ceiling_most x l in omega arith), from_ceiling positive (le_refl (ceiling m d)), ceiling_high)

    pub ceiling_mirrored : x - m / d ≡ ceiling (x * d - m) d
    ceiling_mirrored = ceiling_is positive (x - m / d) (omega (arith, facts)) (omega (arith, facts))
      where
        facts : ((x - m / d) * d + m / d * d ≡ x * d) × (m / d * d ≤ m) × (m < m / d * d + d)
        facts = (sym (add-mul (x - m / d) (m / d) d) ∙ ap (λ n. n * d) (let k = floor_most x l in omega arith), floor_low, omega (arith, above_floor m positive, suc-mul (m / d) d))
