-- The piece of a pixel is the one whose inequalities hold of the products x = a H, y = b W and q = W H. Assumes nothing.
use Prim.Native.Nat.{ℕ, ◌+◌, ◌*◌, ◌≤◌, ◌<◌}
use mathlib.Core.Path.{◌≡◌, subst}
use native.Mathlib.Decide.{dec_le}
use native.Mathlib.Omega.{arith}
use Rattle.element_sibson.specs.Piece.{Piece, top, right, bottom, left}
use Rattle.element_cell.specs.Cell.{PixelInCell}
use Rattle.element_cell.specs.declared.Pixel.{Pixel}
use Rattle.element_cell.proofs.Pieces.{at_top, at_right, at_bottom, at_left}
use Rattle.element_spans.specs.Span.{pixel_piece}

abbrev Holds : Piece → ℕ → ℕ → ℕ → Type 0
Holds top x y q = (y ≤ x) × (x + y ≤ q)
Holds right x y q = (y ≤ x) × (q < x + y)
Holds bottom x y q = (x < y) × (q ≤ x + y)
Holds left x y q = (x < y) × (x + y < q)

-- a piece holds at an offset in the row of a pixel
abbrev pub At : Pixel → Piece → ℕ → Type 0
At p k a = Holds k (a * p.height) (p.b * p.width) (p.width * p.height)

some_piece : (x y q : ℕ) → (k : Piece) × Holds k x y q
some_piece x y q =
    elim (dec_le y x) [
      | yes h ↦ elim (dec_le (x + y) q) [ yes l ↦ (top, (h, l)) | no l ↦ (right, (h, omega arith)) ]
      | no h ↦ elim (dec_le q (x + y)) [ yes l ↦ (bottom, (omega arith, l)) | no l ↦ (left, (omega arith, omega arith)) ]
    ]

module _ (p : Pixel) (i : PixelInCell p) where
  pub piece_is : (k : Piece) → At p k p.a → k ≡ pixel_piece p
  piece_is top h = at_top p i h.0 h.1
  piece_is right h = at_right p i h.0 h.1
  piece_is bottom h = at_bottom p i h.0 h.1
  piece_is left h = at_left p i h.0 h.1

  pub piece_holds : At p (pixel_piece p) p.a
  piece_holds = let h = some_piece (p.a * p.height) (p.b * p.width) (p.width * p.height) in
      subst (λ k. At p k p.a) (piece_is h.0 h.1) h.1
