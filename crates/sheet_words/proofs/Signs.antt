-- Signed numbers of 16 bits and their bits. Assumes nothing.
use Prim.Native.Nat.{ℕ, suc, ◌+◌, ◌-◌, ◌%◌, ◌≤◌, ◌<◌}
use mathlib.Core.Path.{◌≡◌, refl, ap}
use mathlib.Core.Bool.{cond}
use native.Mathlib.Decide.{dec_le}
use native.Mathlib.Omega.{arith}
use lib.IntN.{ℤ, pos, negsuc, ◌+ℤ◌, ◌-ℤ◌}
use lib.Dec.{ltb, leb→le, ltb→lt, nltb→le}
use lib.Signed.{◌≤ℤ◌}
use mir.Syntax.{w16}
use mir.Val.{to_z, of_z}
use borrow.Author.Tests.{lt-ltb, le-ltb}
use Rattle.integers.specs.Within.{◌within◌}
use Rattle.integers.proofs.Order.{subℕ_pos, subℕ_neg, cond_ind}
use Rattle.sheet_words.specs.Word.{signed, bits_of}

-- ---- the bits of a number within 32,767

pub bits_small : {z : ℤ} → z within 32767 → bits_of z < 65536
unfolding bits_of
bits_small {z = pos n} w = omega (arith, w.bound)
bits_small {z = negsuc n} w = omega arith

-- ---- what bits stand for: those from 32,768 on have 65,536 taken away

pub raised_small : (w : ℕ) → (w + 32768) % 65536 ≤ 65535
raised_small w = omega arith

-- raised by 32,768, around at 65,536, and down again
pub signed_raised : (w : ℕ) → w < 65536 → pos ((w + 32768) % 65536) -ℤ pos 32768 ≡ signed w
unfolding signed
signed_raised w k = elim (dec_le 32768 w) [
  | yes h ↦ rw (le-ltb w 32768 h) (subℕ_neg ((w + 32768) % 65536) 32768 (65535 - w) (omega arith))
  | no h ↦ let l : w < 32768 = omega arith in rw (lt-ltb w 32768 l) (subℕ_pos ((w + 32768) % 65536) 32768 w (omega arith))
]

pub signed_within : (w : ℕ) → w < 65536 → signed w within 32768
unfolding signed
signed_within w h =
    cond_ind (ltb w 32768) (pos w) (negsuc (65535 - w)) (λ z. z within 32768)
    (λ t. let k = ltb→lt w 32768 t in record { bound = omega (arith, k) })
    (λ t. let k = nltb→le w 32768 t in record { bound = omega (arith, k, h) })

pub signed_natural : (w : ℕ) → w < 32768 → signed w ≡ pos w
unfolding signed
signed_natural w h = rw (lt-ltb w 32768 h) refl

pub signed_negative : (w : ℕ) → 32768 ≤ w → w < 65536 → signed w +ℤ pos 65536 ≡ pos w
unfolding signed
signed_negative w h k = rw (le-ltb w 32768 h) (subℕ_pos 65536 (suc (65535 - w)) w (omega (arith, h, k)))

-- ---- they are inverse

pub signed_bits_lem : (z : ℤ) → negsuc 32767 ≤ℤ z → z ≤ℤ pos 32767 → signed (bits_of z) ≡ z
unfolding signed bits_of
signed_bits_lem (pos n) a b = let h : n ≤ 32767 = leb→le _ _ b.le in rw (lt-ltb n 32768 (omega (arith, h))) refl
signed_bits_lem (negsuc n) a b =
    let h : n ≤ 32767 = leb→le _ _ a.le in
    rw (le-ltb (65535 - n) 32768 (omega (arith, h))) (ap negsuc (omega (arith, h)))

pub bits_signed_lem : (w : ℕ) → w < 65536 → bits_of (signed w) ≡ w
unfolding signed bits_of
bits_signed_lem w h = cond_ind (ltb w 32768) (pos w) (negsuc (65535 - w)) (λ z. bits_of z ≡ w) (λ t. refl) (λ t. omega (arith, h))

-- ---- the library reads and writes them so

pub reads_signed : (w : ℕ) → to_z w16 w ≡ signed w
unfolding signed
reads_signed w = let e : 65536 - suc w ≡ 65535 - w = omega arith in ap (λ m. cond (ltb w 32768) (pos w) (negsuc m)) e

pub writes_bits : (z : ℤ) → of_z w16 z ≡ bits_of z
unfolding bits_of
writes_bits (pos n) = refl
writes_bits (negsuc n) = omega arith
