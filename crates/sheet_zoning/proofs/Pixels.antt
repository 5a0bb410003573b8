-- Which pixels of a row a zone holds: none left of it, right of it, or in a row that it does not cross. Assumes nothing.
use Prim.Native.Nat.{ℕ, ◌+◌, ◌≤◌, ◌<◌}
use mathlib.Core.Path.{◌≡◌, refl, sym, ◌∙◌}
use mathlib.Core.Bool.{false, ◌&&◌, and-false}
use native.Mathlib.Omega.{arith}
use lib.Dec.{leb}
use borrow.Author.Tests.{le-leb, lt-leb}
use Rattle.sheet_zones.specs.Zones.{Zone, crosses, holds}
use Rattle.sheet_zoning.specs.Clamps.{Alike}

module _ (z : Zone) (x y : ℕ) where
  none_across : crosses z y ≡ false → holds z x y ≡ false
  unfolding holds
  none_across h = rw h (and-false (leb z.left x && leb x z.right))

  left_of_lem : x < z.left → holds z x y ≡ false
  unfolding holds
  left_of_lem h = rw (lt-leb z.left x h) refl

  right_of_lem : z.right < x → holds z x y ≡ false
  unfolding holds
  right_of_lem h = rw (lt-leb x z.right h, and-false (leb z.left x)) refl

  between : z.left ≤ x → x ≤ z.right → holds z x y ≡ crosses z y
  unfolding holds
  between h l = rw (le-leb z.left x h, le-leb x z.right l) refl

module _ (z : Zone) (x y n : ℕ) where
  pub alike_across : crosses z y ≡ false → Alike z x y n
  alike_across h = record { same = λ k l. none_across z (x + k) y h ∙ sym (none_across z x y h) }

  pub alike_left : x < z.left → x + n ≤ z.left → Alike z x y n
  alike_left h l = record { same = λ k m. left_of_lem z (x + k) y (omega (arith, l, m)) ∙ sym (left_of_lem z x y h) }

  pub alike_right : z.right < x → Alike z x y n
  alike_right h = record { same = λ k m. right_of_lem z (x + k) y (omega (arith, h)) ∙ sym (right_of_lem z x y h) }

  pub alike_inside : z.left ≤ x → x ≤ z.right → x + n ≤ z.right + 1 → Alike z x y n
  alike_inside h g l = record { same = λ k m. between z (x + k) y (omega (arith, h)) (omega (arith, l, m)) ∙ sym (between z x y h g) }
