-- The bounds of the readings. Assumes nothing.
use mathlib.Core.Path.{◌≡◌, ap}
use Prim.Native.Nat.{ℕ, ◌*◌, ◌^◌, ◌≤◌, ◌<◌}
use native.Mathlib.Nat.{lt_of_le_of_lt}
use native.Mathlib.Omega.{arith}
use lib.Dec.{lit<}
use lib.IntN.{pos, nat_abs}
use Rattle.integers.proofs.Order.{≤→≤ℤ}
use Rattle.element_sibson.specs.Fraction.{Positive, ◌≤ℚ◌, positive, whole, ◌·ℚ◌, ◌÷◌}
use Rattle.element_sibson.specs.Cubic.{Cell, Point, pixel, Cubic, value, by_r, by_s, jet, bend}
use Rattle.element_sibson.specs.Piece.{Piece, InCell}
use Rattle.element_sibson.specs.Element.{CornerNumbers, sibson}
use Rattle.element_sibson.proofs.Covers.{covering}
use Rattle.element_cell.specs.Corners.{largest, AllWithin}
use Rattle.element_cell.specs.Coefficients.{listed, size}
use Rattle.element_readings.specs.Reading.{rounded, level_of, tilt_x_of, tilt_y_of, bend_xx_of, bend_xy_of, bend_yy_of}
use Rattle.element_readings.specs.Bounds.{On, Bounds}
use Rattle.element_readings.proofs.WithinFractions.{within-÷, within-·, at_most}
use Rattle.element_readings.proofs.Rounded.{rounded_within}
use Rattle.element_readings.proofs.WeightSums.{coefficients}
use Rattle.element_readings.proofs.Parts.{divisor_is}
use Rattle.element_readings.proofs.Limits.{halves_limit}
use Rattle.element_readings.proofs.HeightBounds.{heights}
use Rattle.element_readings.proofs.SlopeBounds.{cell_within, size_by_r, size_by_s, size_by_r_by_r, size_by_s_by_r, size_by_s_by_s}

-- 0 ≤ a/n
not_below_lem : (a : ℕ) (n : Positive) → whole (pos 0) ≤ℚ whole (pos a) ÷ n
not_below_lem a n = record { crossed = ≤→≤ℤ (omega arith) }

pixel_in_lem : (C : Cell) (a b : ℕ) → a ≤ C.W.number → b ≤ C.H.number → InCell (pixel C a b)
pixel_in_lem C a b h l = record {
  from_left = not_below_lem a C.W;
  to_right = at_most a 1 C.W (omega arith);
  from_top = not_below_lem b C.H;
  to_bottom = at_most b 1 C.H (omega arith);
}

levels : (C : Cell) (n : CornerNumbers) → AllWithin largest n → (k : Piece) (P : Point) → On k P → nat_abs (level_of C (sibson n k) P) < 2 ^ 20
unfolding level_of jet
levels C n h k P o = lt_of_le_of_lt
    (rounded_within 393120 (heights n largest h k P o) (at_most (halves_limit * largest) 393120 (positive 2 tt) (omega arith))).bound (lit< tt)

-- a derivative whose coefficients add up to at most 3 times, or 6 times, those of the piece
module _ (n : CornerNumbers) (h : AllWithin largest n) (k : Piece) (P : Point) (c : InCell P) (g : Cubic) (d : g.divisor.number ≡ 2) where
  tilt_of : size (listed g) ≤ 3 * size (listed (sibson n k)) → (m : Positive) → nat_abs (rounded (value g P ÷ m)) < 2 ^ 27
  tilt_of s m = lt_of_le_of_lt
      (rounded_within 100638720 (within-÷ m (cell_within g P c))
      (at_most (size (listed g)) 100638720 g.divisor (omega (arith, coefficients n largest h k)))).bound (lit< tt)

  bend_of : size (listed g) ≤ 6 * size (listed (sibson n k)) → (m m' : Positive) → nat_abs (rounded (pos 64 ·ℚ (value g P ÷ m ÷ m'))) < 2 ^ 34
  bend_of s m m' = lt_of_le_of_lt
      (rounded_within 12881756160 (within-· 64 (within-÷ m' (within-÷ m (cell_within g P c))))
      (at_most (64 * size (listed g)) 12881756160 g.divisor (omega (arith, coefficients n largest h k)))).bound (lit< tt)

two : (n : CornerNumbers) (k : Piece) → (sibson n k).divisor.number ≡ 2
two n k = ap (λ d. d.number) (divisor_is n k)

pub bounds : Bounds
unfolding tilt_x_of tilt_y_of bend_xx_of bend_xy_of bend_yy_of jet bend by_r by_s
bounds = record {
  pixels = λ C a b h l. record { in_cell = pixel_in_lem C a b h l; in_triangle = covering.covers (pixel C a b) };
  heights = heights;
  levels = levels;
  tilts_x = λ C n h k P c. let f = sibson n k in tilt_of n h k P c (by_r f) (two n k) (size_by_r f) C.W;
  tilts_y = λ C n h k P c. let f = sibson n k in tilt_of n h k P c (by_s f) (two n k) (size_by_s f) C.H;
  bends_xx = λ C n h k P c. let f = sibson n k in bend_of n h k P c (by_r (by_r f)) (two n k) (size_by_r_by_r f) C.W C.W;
  bends_xy = λ C n h k P c. let f = sibson n k in bend_of n h k P c (by_s (by_r f)) (two n k) (size_by_s_by_r f) C.W C.H;
  bends_yy = λ C n h k P c. let f = sibson n k in bend_of n h k P c (by_s (by_s f)) (two n k) (size_by_s_by_s f) C.H C.H;
}
