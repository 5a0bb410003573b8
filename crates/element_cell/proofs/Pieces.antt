-- The pieces that hold a pixel, and the one that it is read from, by products of its offsets and its cell's sides. Assumes nothing.
use mathlib.Core.Path.{◌≡◌, refl, sym, ◌∙◌}
use mathlib.Core.Bool.{Bool, true, false, ◌&&◌, cond}
use mathlib.Core.List.{List, [], ◌∷◌}
use Prim.Native.Nat.{ℕ, ◌+◌, ◌*◌, ◌≤◌, ◌<◌}
use native.Mathlib.Nat.{le_of_lt}
use borrow.Author.Tests.{le-leb, lt-leb}
use lib.Dec.{T, leb}
use lib.IntN.{ℤ, pos}
use lib.Signed.{le_z, le_z_yes}
use Rattle.integers.proofs.Polynomial.{Expr, var, #◌, ◌⊕◌, ◌⊗◌, eval}
use Rattle.integers.proofs.Solve.{◌≼◌}
use Rattle.integers.proofs.Deduce.{◌·◌, certified, certified_sound}
use Rattle.element_sibson.specs.Cubic.{Cell, pixel}
use Rattle.element_sibson.specs.Piece.{Piece, top, right, bottom, left, triangle, piece_at}
use Rattle.element_sibson.proofs.Quote.{Quotient, wholeₑ, complementₑ, ◌÷ₑ◌, ◌≤ₑ◌}
use Rattle.element_cell.specs.Cell.{Pixel, pixel_cell, pixel_point, PixelInCell, cell}
use Rattle.element_cell.proofs.Sides.{side_is}

-- ---- the inequalities of the triangles, multiplied by the cell's area: of x = r W H, y = s W H and q = W H

-- whether they hold
abbrev pub between : Piece → ℕ → ℕ → ℕ → Bool
between top x y q = leb y x && leb (x + y) q
between right x y q = leb y x && leb q (x + y)
between bottom x y q = leb x y && leb q (x + y)
between left x y q = leb x y && leb (x + y) q

-- two tests that hold together are one
pub same_test : (a b : Bool) → (T a → T b) → (T b → T a) → a ≡ b
same_test true true f g = refl
same_test true false f g = absurd (f tt)
same_test false true f g = absurd (g tt)
same_test false false f g = refl

abbrev rₑ : Quotient
rₑ = wholeₑ (var 0) ÷ₑ var 2

abbrev sₑ : Quotient
sₑ = wholeₑ (var 1) ÷ₑ var 3

abbrev xₑ : Expr
xₑ = var 0 ⊗ var 3

abbrev yₑ : Expr
yₑ = var 1 ⊗ var 2

abbrev qₑ : Expr
qₑ = var 2 ⊗ var 3

-- ---- the point a and b pixels from the left and the top edge of any cell

module _ (C : Cell) (a b : ℕ) where
  abbrev ρ : List ℤ
  ρ = pos a ∷ pos b ∷ pos C.W.number ∷ pos C.H.number ∷ []

  -- an inequality of fractions and one of products, each of which follows from the other
  same : (u v : Quotient) (m n : Expr) → T (certified ((# 1 · (u ≤ₑ v)) ∷ []) (m ≼ n)) → T (certified ((# 1 · (m ≼ n)) ∷ []) (u ≤ₑ v))
      → le_z (eval ρ (u.num ⊗ v.den)) (eval ρ (v.num ⊗ u.den)) ≡ le_z (eval ρ m) (eval ρ n)
  same u v m n f g = same_test _ _
      (λ t. (certified_sound ((# 1 · (u ≤ₑ v)) ∷ []) (m ≼ n) f ρ (le_z_yes t)).le) (λ t. (certified_sound ((# 1 · (m ≼ n)) ∷ []) (u ≤ₑ v) g ρ (le_z_yes t)).le)

  triangle_is : (k : Piece) → triangle k (pixel C a b) ≡ between k (a * C.H.number) (b * C.W.number) (C.W.number * C.H.number)
  triangle_is top = λ t. same sₑ rₑ yₑ xₑ tt tt t && same sₑ (complementₑ rₑ) (xₑ ⊕ yₑ) qₑ tt tt t
  triangle_is right = λ t. same sₑ rₑ yₑ xₑ tt tt t && same (complementₑ sₑ) rₑ qₑ (xₑ ⊕ yₑ) tt tt t
  triangle_is bottom = λ t. same rₑ sₑ xₑ yₑ tt tt t && same (complementₑ rₑ) sₑ qₑ (xₑ ⊕ yₑ) tt tt t
  triangle_is left = λ t. same rₑ sₑ xₑ yₑ tt tt t && same rₑ (complementₑ sₑ) (xₑ ⊕ yₑ) qₑ tt tt t

-- ---- a pixel as the code holds it

-- the lowest piece that holds it, by y ≤ x, x ≤ y, x + y ≤ q and q ≤ x + y
abbrev lowest : Bool → Bool → Bool → Bool → Piece
lowest above below before beyond = cond (above && before) top (cond (above && beyond) right (cond (below && beyond) bottom left))

module _ (p : Pixel) (i : PixelInCell p) where
  abbrev x : ℕ
  x = p.a * p.height

  abbrev y : ℕ
  y = p.b * p.width

  abbrev q : ℕ
  q = p.width * p.height

  pub held : (k : Piece) → between k x y q ≡ triangle k (pixel_point p)
  unfolding cell
  held k = let w = side_is i.width in let h = side_is i.height in sym (triangle_is (pixel_cell p) p.a p.b k ∙ (λ t. between k (p.a * h t) (p.b * w t) (w t * h t)))

  read_from_lem : lowest (leb y x) (leb x y) (leb (x + y) q) (leb q (x + y)) ≡ piece_at (pixel_point p)
  read_from_lem = λ t. cond (held top t) top (cond (held right t) right (cond (held bottom t) bottom left))

  pub at_top : y ≤ x → x + y ≤ q → top ≡ piece_at (pixel_point p)
  at_top h k = sym (λ t. lowest (le-leb y x h t) (leb x y) (le-leb (x + y) q k t) (leb q (x + y))) ∙ read_from_lem

  pub at_right : y ≤ x → q < x + y → right ≡ piece_at (pixel_point p)
  at_right h k = sym (λ t. lowest (le-leb y x h t) (leb x y) (lt-leb (x + y) q k t) (le-leb q (x + y) (le_of_lt k) t)) ∙ read_from_lem

  pub at_bottom : x < y → q ≤ x + y → bottom ≡ piece_at (pixel_point p)
  at_bottom h k = sym (λ t. lowest (lt-leb y x h t) (le-leb x y (le_of_lt h) t) (leb (x + y) q) (le-leb q (x + y) k t)) ∙ read_from_lem

  pub at_left : x < y → x + y < q → left ≡ piece_at (pixel_point p)
  at_left h k = sym (λ t. lowest (lt-leb y x h t) (le-leb x y (le_of_lt h) t) (leb (x + y) q) (lt-leb q (x + y) k t)) ∙ read_from_lem
