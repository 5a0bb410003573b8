-- The cubic along a row, at the offsets of a span: it gives the levels, and they are as small as the code asks. Assumes nothing.
use Prim.Native.Nat.{ℕ, ◌+◌, ◌*◌, ◌^◌, ◌≤◌, ◌<◌}
use mathlib.Core.Path.{◌≡◌, refl, sym, ◌∙◌, ap, subst⁻¹}
use mathlib.Core.List.{List}
use native.Mathlib.Nat.{le_of_lt, add_assoc}
use native.Mathlib.Omega.{arith}
use lib.IntN.{ℤ, pos, nat_abs}
use Rattle.integers.specs.Round.{round}
use Rattle.integers.specs.Constants.{constants, Prepared}
use Rattle.integers.specs.declared.Denominator.{Denominator}
use Rattle.integers.proofs.Bounds.{is_within}
use Rattle.integers.proofs.Prepared.{prepared}
use Rattle.element_sibson.specs.Piece.{Piece}
use Rattle.element_sibson.specs.Element.{CornerNumbers, sibson}
use Rattle.element_cell.specs.Cell.{cell, pixel_cell, pixel_point, PixelInCell}
use Rattle.element_cell.specs.Corners.{largest, AllWithin}
use Rattle.element_cell.specs.Coefficients.{listed, halves}
use Rattle.element_cell.specs.declared.Pixel.{Pixel}
use Rattle.element_cell.proofs.Sides.{side_is}
use Rattle.element_readings.specs.Reading.{level_of}
use Rattle.element_readings.proofs.Bounds.{bounds}
use Rattle.element_turnings.proofs.Joined.{joined}
use Rattle.element_turnings.proofs.Sizes.{piece_sized}
use Rattle.element_row_cubic.specs.Row.{along_row, at_offset, cubes_of, reach}
use Rattle.element_row_cubic.proofs.Denominators.{denominates}
use Rattle.element_row_cubic.proofs.Heights.{row_laws}
use Rattle.element_row_cubic.proofs.RowBounds.{row_reach}
use Rattle.element_spans.specs.Span.{to_right, pixel_piece, cell_level}
use Rattle.element_levels.specs.Needs.{FitsAlong}
use Rattle.element_spans.specs.Needs.{FitsCell}
use Rattle.element_spans.proofs.InRow.{inside_right}

-- a level lies strictly between −2²⁰ and 2²⁰
level_below : (n : CornerNumbers) → AllWithin largest n → (p : Pixel) → PixelInCell p → nat_abs (cell_level n p) < 2 ^ 20
unfolding cell_level cell
level_below n all p i = bounds.levels (pixel_cell p) n all (pixel_piece p) (pixel_point p) (bounds.pixels (pixel_cell p) p.a p.b
    (subst⁻¹ (λ w. p.a ≤ w) (side_is i.width) i.across) (subst⁻¹ (λ h. p.b ≤ h) (side_is i.height) i.down))

-- 2 W³ H³
abbrev pub denominator_of : Pixel → ℤ
denominator_of p = pos (2 * (cubes_of (pixel_cell p)).number)

-- a span of a row: size pixels, from the one `from` to the right of p on, all of the piece q, whose cubic along the row is known
pub record Span (n : CornerNumbers) (p : Pixel) (count : ℕ) (q : Piece) (cubic : List ℤ) (from size : ℕ) : Type 0 where
  pub along : cubic ≡ along_row (pixel_cell p) (sibson n q) p.b
  pub fits : from + size ≤ count
  pub pieces : (k : ℕ) → k < size → pixel_piece (to_right p (from + k)) ≡ q

module _ {n : CornerNumbers} {p : Pixel} {count : ℕ} {q : Piece} {cubic : List ℤ} {d : Denominator} {from size : ℕ}
    (all : AllWithin largest n) (fit : FitsCell p count) (divisor : d ≡ constants (denominator_of p)) (s : Span n p count q cubic from size) where
  -- from the doubled coefficients
  doubled : cubic ≡ along_row (pixel_cell p) (halves (listed (sibson n q))) p.b
  doubled = s.along ∙ ap (λ f. along_row (pixel_cell p) f p.b) (sym (joined.back n q))

  -- the cubic gives the levels
  pub levels_are : (k : ℕ) → k < size → round (at_offset cubic (p.a + from + k)) (nat_abs d.value) ≡ cell_level n (to_right p (from + k))
  unfolding cell_level halves constants
  levels_are k l =
      (λ t. round (at_offset (doubled t) (add_assoc p.a from k t)) (nat_abs (divisor t).value))
      ∙ sym (row_laws.levels (pixel_cell p) (halves (listed (sibson n q))) (p.a + (from + k)) p.b)
      ∙ ap (λ f. level_of (pixel_cell p) f (pixel_point (to_right p (from + k)))) (joined.back n q)
      ∙ ap (λ q. level_of (pixel_cell p) (sibson n q) (pixel_point (to_right p (from + k)))) (sym (s.pieces k l))

  pub levels_fit : FitsAlong cubic (p.a + from) size d
  levels_fit k l = let i = fit.inside in let h = inside_right p {k = from + k} fit (omega (arith, s.fits)) in record {
    reached = subst⁻¹ (λ c. reach c ≤ 2 ^ 62) doubled (row_reach (piece_sized n all q refl) i.width i.height i.down);
    near = omega (arith, s.fits, fit.fits, i.width.most);
    level = record {
      prepared = subst⁻¹ (λ d. Prepared d) divisor (prepared (denominates i.width i.height));
      small = is_within _ (subst⁻¹ (λ z. nat_abs z ≤ 2 ^ 20) (levels_are k l) (le_of_lt (level_below n all (to_right p (from + k)) h)));
    };
  }
