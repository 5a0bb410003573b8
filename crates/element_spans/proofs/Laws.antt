-- Where the spans of a row end: a piece that holds a pixel holds those to its right before its end, and no others. Assumes nothing.
use Prim.Native.Nat.{suc, ◌+◌}
use mathlib.Core.Path.{◌≡◌, sym, subst}
use native.Mathlib.Decide.{dec_le}
use native.Mathlib.Omega.{arith}
use Rattle.element_sibson.specs.Piece.{Piece}
use Rattle.element_cell.specs.Cell.{PixelInCell}
use Rattle.element_cell.specs.declared.Pixel.{Pixel}
use Rattle.element_spans.specs.Span.{to_right, pixel_piece, end_of, SpanLaws}
use Rattle.element_spans.proofs.PieceEnds.{before_end, up_to_end, beyond_cell}
use Rattle.element_spans.proofs.InRow.{inside_at}
use Rattle.element_spans.proofs.Products.{At, piece_is, piece_holds}

-- the piece k holds the pixel
held_by : (p : Pixel) → PixelInCell p → {k : Piece} → pixel_piece p ≡ k → At p k p.a
held_by p i e = subst (λ k. At p k p.a) e (piece_holds p i)

pub span_laws : SpanLaws
span_laws = record {
  starts = λ p i. before_end p i.height.least (pixel_piece p) p.a i.across (piece_holds p i);
  within = λ p i. elim (dec_le (end_of (pixel_piece p) p) (suc p.width)) [
    | yes h ↦ h
    | no h ↦ absurd (beyond_cell p i.height.least (pixel_piece p) i.down (omega arith))
  ];
  same = λ p k i l. sym (piece_is (to_right p k) i (pixel_piece p) (up_to_end p i.height.least (pixel_piece p) (omega arith) (piece_holds p (inside_at i (omega (arith, i.across)))) l));
  beyond = λ p k i l e.
      let h = subst (λ q. At p q (p.a + k)) e (piece_holds (to_right p k) i) in
      omega (arith, before_end p i.height.least (pixel_piece p) (p.a + k) i.across h);
  top_only = λ p k i e f. omega (arith, held_by p (inside_at i (omega (arith, i.across))) e, held_by (to_right p k) i f);
  bottom_only = λ p k i e f. omega (arith, held_by p (inside_at i (omega (arith, i.across))) e, held_by (to_right p k) i f);
}
