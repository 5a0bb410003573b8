-- The row of a pixel crosses three pieces of its cell at most: it is in left up to that one's end, from there in the middle one up to its end, and then in
-- right. Assumes nothing.
use Prim.Native.Nat.{ℕ, ◌*◌, ◌-◌, ◌/◌, ◌≤◌, ◌<◌}
use mathlib.Core.Path.{◌≡◌, refl, ◌∙◌, ap, subst⁻¹}
use mathlib.Core.Bool.{true, false, cond}
use native.Mathlib.Decide.{dec_le}
use native.Mathlib.Nat.{le_refl, suc-mul, mul_comm, mul_assoc, mul-le-mul_right}
use native.Mathlib.Omega.{arith}
use borrow.Author.Tests.{le-leb, lt-leb}
use Rattle.element_sibson.specs.Piece.{top, bottom, left}
use Rattle.element_cell.specs.Cell.{PixelInCell}
use Rattle.element_cell.specs.declared.Pixel.{Pixel}
use Rattle.element_spans.specs.Span.{ceiling, end_of}
use Rattle.element_spans.specs.Ends.{upper_half, middle_of}
use Rattle.element_spans.proofs.Divisions.{below_ceiling, from_ceiling, ceiling_mirrored}
use Rattle.element_spans.proofs.Products.{At}
use Rattle.element_spans.proofs.UpperHalf.{height_fits, Crossed, upper}

module _ (p : Pixel) where
  pub upper_is : 2 * p.b ≤ p.height → upper_half p ≡ true
  unfolding upper_half
  upper_is h = le-leb (2 * p.b) p.height h

  pub lower_is : p.height < 2 * p.b → upper_half p ≡ false
  unfolding upper_half
  lower_is h = lt-leb (2 * p.b) p.height h

  pub upper_middle : upper_half p ≡ true → middle_of p ≡ top
  unfolding middle_of
  upper_middle e = ap (λ t. cond t top bottom) e

  pub lower_middle : upper_half p ≡ false → middle_of p ≡ bottom
  unfolding middle_of
  lower_middle e = ap (λ t. cond t top bottom) e

  -- in the lower half s is more than one half
  pub lower_half : 0 < p.width → p.height < 2 * p.b → p.width * p.height < 2 * (p.b * p.width)
  lower_half w h = omega (arith, w, mul-le-mul_right p.width h, suc-mul p.height p.width, mul_assoc 2 p.b p.width, mul_comm p.width p.height)

module _ (p : Pixel) (i : PixelInCell p) where
  pub in_left : {a : ℕ} → a < end_of left p → At p left a
  unfolding end_of
  in_left l = omega (arith, (below_ceiling i.height.least).0 l)

  lower : p.height < 2 * p.b → Crossed p i bottom
  unfolding end_of
  lower h = let half = lower_half p i.width.least h in let d = i.height.least in record {
    middle = λ l m. omega (arith, half, from_ceiling d l, (below_ceiling d).0 m);
    beyond = λ l. omega (arith, half, from_ceiling d l);
  }

  pub crossed : Crossed p i (middle_of p)
  crossed = elim (dec_le (2 * p.b) p.height) [
    | yes h ↦ subst⁻¹ (Crossed p i) (upper_middle p (upper_is p h)) (upper p i h)
    | no h ↦ let l : p.height < 2 * p.b = omega arith in subst⁻¹ (Crossed p i) (lower_middle p (lower_is p l)) (lower l)
  ]

  -- the middle piece ends no earlier than the left one: no offset is left of the diagonal and right of it
  pub in_order_lem : end_of left p ≤ end_of (middle_of p) p
  in_order_lem = elim (dec_le (end_of left p) (end_of (middle_of p) p)) [
    | yes h ↦ h
    | no h ↦ absurd (omega (arith, (in_left {a = end_of (middle_of p) p} (omega arith)).0, (crossed.beyond (le_refl (end_of (middle_of p) p))).0))
  ]

  -- ---- both ends from one quotient: the diagonals mirror each other

  pub lower_ends : p.height < 2 * p.b → (p.width - p.b * p.width / p.height ≡ end_of left p) × (ceiling (p.b * p.width) p.height ≡ end_of bottom p)
  unfolding end_of
  lower_ends h = (
    ceiling_mirrored (p.b * p.width) i.height.least p.width (height_fits p i)
        ∙ ap (λ m. ceiling m p.height) (omega (arith, lower_half p i.width.least h, height_fits p i)),
    refl,
  )
