-- The bits of a sum of two numbers in range are those of the two added, around at 65,536. Assumes nothing.
use Prim.Native.Nat.{ℕ, suc, ◌+◌, ◌-◌, ◌%◌, ◌≤◌, ◌<◌}
use mathlib.Core.Path.{◌≡◌, ◌∙◌, ap}
use native.Mathlib.Decide.{dec_le}
use native.Mathlib.Nat.{add_comm}
use native.Mathlib.Omega.{arith}
use lib.IntN.{ℤ, pos, negsuc, ◌+ℤ◌}
use Rattle.integers.specs.Within.{◌within◌}
use Rattle.integers.proofs.Order.{subℕ_pos, subℕ_neg}
use Rattle.integers.proofs.Bounds.{within_mono, within-+, within_upper, within_lower}
use Rattle.sheet_words.specs.Word.{signed, bits_of}
use Rattle.sheet_words.proofs.Signs.{bits_small, signed_bits_lem, bits_signed_lem}
use Rattle.sheet_layout.specs.Format.{steepest}

-- a natural number n and one below 0
mixed : (n m : ℕ) → n ≤ 4095 → suc m ≤ 4095 → (n + (65535 - m)) % 65536 ≡ bits_of (pos n +ℤ negsuc m)
unfolding bits_of
mixed n m h k = elim (dec_le (suc m) n) [
  | yes l ↦ rw (subℕ_pos n (suc m) (n - suc m) (omega arith)) (omega (arith, h, k))
  | no l ↦ rw (subℕ_neg n (suc m) (m - n) (omega arith)) (omega (arith, h, k))
]

bits_sum : (x y : ℤ) → x within steepest → y within steepest → (bits_of x + bits_of y) % 65536 ≡ bits_of (x +ℤ y)
unfolding bits_of
bits_sum (pos n) (pos m) h k = omega (arith, h.bound, k.bound)
bits_sum (pos n) (negsuc m) h k = mixed n m h.bound k.bound
bits_sum (negsuc n) (pos m) h k = ap (λ s. s % 65536) (add_comm (65535 - n) m) ∙ mixed m n k.bound h.bound
bits_sum (negsuc n) (negsuc m) h k = omega (arith, h.bound, k.bound)

-- such a sum has 16 bits, and they are its own
module _ {x y : ℤ} (h : x within steepest) (k : y within steepest) where
  sum_within : (x +ℤ y) within 32767
  sum_within = within_mono (within-+ h k) (omega arith)

  sum_small : bits_of (x +ℤ y) < 65536
  sum_small = bits_small sum_within

  pub sum_back : signed (bits_of (x +ℤ y)) ≡ x +ℤ y
  sum_back = signed_bits_lem _ (within_lower {N = 32768} (within_mono sum_within (omega arith))) (within_upper sum_within)

-- of two words
pub words_sum : {v w : ℕ} → v < 65536 → w < 65536 → signed v within steepest → signed w within steepest →
    ((v + w) % 65536 ≡ bits_of (signed v +ℤ signed w)) × ((v + w) % 65536 < 65536)
words_sum {v} {w} p q h k =
    let e = rw (bits_signed_lem v p, bits_signed_lem w q) at (bits_sum (signed v) (signed w) h k) in
    (e, rw e (sum_small h k))
