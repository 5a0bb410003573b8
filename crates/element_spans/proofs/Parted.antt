-- How the pixels of a row, from one pixel of a cell on, part into the three spans: the first `one` of them are left, those up to `two` of the middle piece, the
-- others right. Assumes nothing.
use Prim.Native.Nat.{ℕ, ◌-◌, ◌≤◌, ◌<◌, min}
use mathlib.Core.Path.{◌≡◌, sym, ◌∙◌}
use native.Mathlib.Omega.{arith}
use Rattle.element_sibson.specs.Piece.{left, right}
use Rattle.element_cell.specs.declared.Pixel.{Pixel}
use Rattle.element_spans.specs.Span.{to_right, pixel_piece, end_of}
use Rattle.element_spans.specs.Ends.{middle_of, ends_of}
use Rattle.element_spans.specs.declared.Ends.{Ends}
use Rattle.element_spans.specs.Needs.{FitsCell}
use Rattle.element_spans.proofs.InRow.{inside_right}
use Rattle.element_spans.proofs.Products.{piece_is}
use Rattle.element_spans.proofs.Crossing.{in_left, crossed, in_order_lem}

-- what lies before an end, of count pixels from p on
pub record Parted (p : Pixel) (count one two : ℕ) : Type 0 where
  pub lefts : one ≡ min count (end_of left p - p.a)
  pub both : two ≡ min count (end_of (middle_of p) p - p.a)

-- as the code works it out, from the ends
pub parted : {p : Pixel} {e : Ends} {a count one two : ℕ} → a ≡ p.a → e ≡ ends_of p → one ≡ min count (e.left - a) → two ≡ min count (e.middle - a) → Parted p count one two
unfolding ends_of
parted {count = count} here e lefts both = record {
  lefts = lefts ∙ (λ t. min count ((e t).left - here t));
  both = both ∙ (λ t. min count ((e t).middle - here t));
}

module _ {p : Pixel} {count one two : ℕ} (fit : FitsCell p count) (s : Parted p count one two) where
  pub ordered : (one ≤ two) × (two ≤ count)
  ordered = omega (arith, s.lefts, s.both, in_order_lem p fit.inside)

  pub left_piece : (k : ℕ) → k < one → pixel_piece (to_right p k) ≡ left
  left_piece k l = sym (piece_is (to_right p k) (inside_right p fit (omega (arith, s.lefts))) left (in_left p fit.inside (omega (arith, s.lefts))))

  pub middle_piece : (k : ℕ) → one ≤ k → k < two → pixel_piece (to_right p k) ≡ middle_of p
  middle_piece k m l = sym (piece_is (to_right p k) (inside_right p fit (omega (arith, s.both))) (middle_of p)
      ((crossed p fit.inside).middle (omega (arith, s.lefts, s.both)) (omega (arith, s.both))))

  pub right_piece : (k : ℕ) → two ≤ k → k < count → pixel_piece (to_right p k) ≡ right
  right_piece k m l = sym (piece_is (to_right p k) (inside_right p fit l) right ((crossed p fit.inside).beyond (omega (arith, s.both))))
