-- Rounding over 2 x y, for powers x and y of a cell's sides: what is asked and given through what the machine reads. Assumes nothing.
use Rattle.std.proofs.Common.{◌≡◌, ◌*◌, ◌^◌, ◌<◌, ℕ, ℤ, pos, to_z, of_z, sym, ◌∙◌, w64}
use native.Mathlib.Nat.{mul-pos}
use lib.Dec.{lit<, lit≤}
use lib.IntN.{nat_abs}
use lib.Signed.{mag}
use Rattle.integers.specs.Ratio.{Ratio}
use Rattle.integers.specs.Round.{round}
use Rattle.integers.specs.Within.{◌within◌}
use Rattle.integers.proofs.Order.{<→<ℤ}
use Rattle.integers.proofs.Bounds.{within_mono}
use Rattle.integers.proofs.Operand.{Operand, literal, known, returned, stored, ◌⊠◌, gives, unchanged}
use Rattle.element_cell.specs.Cell.{Pixel, Side, cell, pixel_cell, PixelInCell}
use Rattle.element_cell.proofs.Sides.{length_within, square_within, cube_within, side_is}

-- ---- powers of a side l, as a call returned them

pub record PowerOf (l : ℕ) : Type 0 where
  pub power : ℕ → ℕ
  pub result : ℤ
  pub is : result ≡ pos (power l)
  pub above : Side l → 0 < power l
  pub small : Side l → pos (power l) within (2 ^ 18)

abbrev pub length_is : {l : ℕ} {x : ℤ} → x ≡ pos l → PowerOf l
length_is {x = x} e = record { power = λ l. l; result = x; is = e; above = λ s. s.least; small = λ s. within_mono (length_within s.most) (lit≤ tt) }

abbrev pub square_is : {l : ℕ} {x : ℤ} → x ≡ pos (l * l) → PowerOf l
square_is {x = x} e = record { power = λ l. l * l; result = x; is = e; above = λ s. mul-pos s.least s.least; small = λ s. within_mono (square_within s.most) (lit≤ tt) }

abbrev pub cube_is : {l : ℕ} {x : ℤ} → x ≡ pos (l * l * l) → PowerOf l
cube_is {x = x} e = record { power = λ l. l * l * l; result = x; is = e; above = λ s. mul-pos (mul-pos s.least s.least) s.least; small = λ s. cube_within s.most }

-- ---- 64 times a number, as bends are counted

abbrev pub in_64ths : {z : ℤ} → z within (2 ^ 56) → Operand
in_64ths h = stored w64 (literal (pos 64) ⊠ known w64 h tt) tt

-- ---- a reading at a pixel, over such powers

module _ {p : Pixel} (i : PixelInCell p) (x : PowerOf p.width) (y : PowerOf p.height) where
  abbrev pub divisor : Operand
  divisor = literal (pos 2) ⊠ stored w64 (returned w64 x.is (x.small i.width) tt ⊠ returned w64 y.is (y.small i.height) tt) tt

  -- what rounding asks
  pub ratio : (n : Operand) → n.number within (2 ^ 62) → Ratio n.read (to_z w64 (of_z w64 divisor.read))
  ratio n h = rw (n.reads, gives w64 divisor tt)
      (record {
        numerator = h;
        denominator = record { positive = <→<ℤ (mul-pos {m = 2} (lit< tt) (mul-pos (x.above i.width) (y.above i.height))); small = divisor.bounded };
      })

  -- what it returned, r, is the reading v
  pub reading_is : (n : Operand) {r v : ℤ} → mag r < 2 ^ 63 → r ≡ round n.read (nat_abs (to_z w64 (of_z w64 divisor.read))) →
      v ≡ round n.number (2 * (x.power (pixel_cell p).W.number * y.power (pixel_cell p).H.number)) → to_z w64 (of_z w64 r) ≡ v
  unfolding cell
  reading_is n small e f =
      unchanged w64 small ∙ e ∙ (λ t. round (n.reads t) (nat_abs (gives w64 divisor tt t)))
      ∙ sym (f ∙ (λ t. round n.number (2 * (x.power (side_is i.width t) * y.power (side_is i.height t)))))
