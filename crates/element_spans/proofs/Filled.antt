-- The row of a cell, span by span: what filling each of the three asks, and the row after it. Assumes nothing.
use Prim.Native.Nat.{ℕ, ◌+◌, ◌-◌, ◌≤◌, min}
use mathlib.Core.Path.{◌≡◌, sym, ◌∙◌, ap, subst, subst⁻¹}
use mathlib.Core.List.{List}
use native.Mathlib.Nat.{add-zero, zero-add}
use native.Mathlib.Omega.{arith}
use lib.IntN.{ℤ, nat_abs}
use lib.ListN.{length}
use mir.Syntax.{w64}
use Rattle.integers.specs.Round.{round}
use Rattle.integers.specs.Stepwise.{steps, starting_at}
use Rattle.integers.specs.Constants.{constants}
use Rattle.integers.specs.declared.Denominator.{Denominator}
use Rattle.integers.proofs.Operand.{Operand, returned}
use Rattle.integers.proofs.Stepwise.{steps_length, steps_same, starting_at_lem, starting_more}
use Rattle.element_sibson.specs.Piece.{Piece, left, right}
use Rattle.element_sibson.specs.Element.{CornerNumbers, sibson}
use Rattle.element_cell.specs.Cell.{pixel_cell, PixelInCell}
use Rattle.element_cell.specs.Corners.{largest, AllWithin}
use Rattle.element_cell.specs.declared.Pixel.{Pixel}
use Rattle.element_row_cubic.specs.Row.{along_row, at_offset}
use Rattle.element_row_cubic.proofs.Denominators.{denominates}
use Rattle.element_levels.specs.Needs.{FitsAlong}
use Rattle.element_spans.specs.Span.{to_right, cell_level}
use Rattle.element_spans.specs.Ends.{middle_of, ends_of}
use Rattle.element_spans.specs.declared.Ends.{Ends}
use Rattle.element_spans.specs.Needs.{FitsCell}
use Rattle.element_spans.proofs.Cubics.{Span, denominator_of, levels_are, levels_fit}
use Rattle.element_spans.proofs.Parted.{Parted, parted, ordered, left_piece, middle_piece, right_piece}

-- the row that `fill_levels` leaves
abbrev pub FilledBy : List ℤ → ℕ → Denominator → ℕ → ℕ → List ℤ → List ℤ → Type 0
FilledBy cubic offset d at size before row =
    row ≡ steps (starting_at at (λ k. round (at_offset cubic (offset + k)) (nat_abs d.value))) at size before

-- the levels at a pixel and those to its right
abbrev levels : CornerNumbers → Pixel → ℕ → ℤ
levels n p k = cell_level n (to_right p k)

-- the row with the levels of the first `done` pixels
pub record Filled (n : CornerNumbers) (p : Pixel) (at : ℕ) (row₀ : List ℤ) (done : ℕ) (row : List ℤ) : Type 0 where
  pub holds : row ≡ steps (starting_at at (levels n p)) at done row₀

pub same_size : {n : CornerNumbers} {p : Pixel} {at done : ℕ} {row₀ row : List ℤ} → Filled n p at row₀ done row → length row ≡ length row₀
same_size filled = ap length filled.holds ∙ steps_length _ _ _ _

-- the denominator, as the code holds it
abbrev pub divisor : {p : Pixel} {z : ℤ} → PixelInCell p → z ≡ denominator_of p → Operand
divisor i e = returned w64 e (denominates i.width i.height).small tt

-- what the spans go by: the corner numbers' bound, pixels of a cell, the first one's offset, the denominator, and how many pixels lie before each end
pub record Known (n : CornerNumbers) (p : Pixel) (count a : ℕ) (d : Denominator) (one two : ℕ) : Type 0 where
  pub all : AllWithin largest n
  pub fit : FitsCell p count
  pub here : a ≡ p.a
  pub divisor : d ≡ constants (denominator_of p)
  pub parted : Parted p count one two

module _ {n : CornerNumbers} {p : Pixel} {count a : ℕ} {d : Denominator} {one two : ℕ} (w : Known n p count a d one two) where
  pub in_order_lem : (one ≤ two) × (two ≤ count)
  in_order_lem = ordered w.fit w.parted

  -- a cubic along the row of a piece
  abbrev Along : Piece → List ℤ → Type 0
  Along k cubic = cubic ≡ along_row (pixel_cell p) (sibson n k) p.b

  module _ {cubic : List ℤ} where
    left_span : Along left cubic → Span n p count left cubic 0 one
    left_span along = record { along = along; fits = omega (arith, in_order_lem); pieces = λ k l. left_piece w.fit w.parted (0 + k) (omega arith) }

    middle_span : Along (middle_of p) cubic → Span n p count (middle_of p) cubic one (two - one)
    middle_span along = record { along = along; fits = omega (arith, in_order_lem); pieces = λ k l. middle_piece w.fit w.parted (one + k) (omega arith) (omega arith) }

    right_span : Along right cubic → Span n p count right cubic two (count - two)
    right_span along = record { along = along; fits = omega (arith, in_order_lem); pieces = λ k l. right_piece w.fit w.parted (two + k) (omega arith) (omega arith) }

    pub left_fits : Along left cubic → FitsAlong cubic a one d
    left_fits along = subst (λ o. FitsAlong cubic o one d) (add-zero p.a ∙ sym w.here) (levels_fit w.all w.fit w.divisor (left_span along))

    pub middle_fits : Along (middle_of p) cubic → FitsAlong cubic (a + one) (two - one) d
    middle_fits along = rw w.here (levels_fit w.all w.fit w.divisor (middle_span along))

    pub right_fits : Along right cubic → FitsAlong cubic (a + two) (count - two) d
    right_fits along = rw w.here (levels_fit w.all w.fit w.divisor (right_span along))

    module _ {at : ℕ} {row₀ row : List ℤ} where
      pub left_filled : Along left cubic → FilledBy cubic a d at one row₀ row → Filled n p at row₀ one row
      left_filled along e = record {
        holds = e ∙ steps_same _ _ at one _ (λ k h.
            starting_at_lem at _ k
            ∙ ap (λ o. round (at_offset cubic (o + k)) (nat_abs d.value)) (w.here ∙ sym (add-zero p.a))
            ∙ levels_are w.all w.fit w.divisor (left_span along) k h
            ∙ ap (levels n p) (zero-add k)
            ∙ sym (starting_at_lem at (levels n p) k));
      }

      pub middle_filled : Along (middle_of p) cubic → {before : List ℤ} → Filled n p at row₀ one before → FilledBy cubic (a + one) d (at + one) (two - one) before row → Filled n p at row₀ two row
      middle_filled along filled e = record {
        holds = starting_more (levels n p) _ at one (two - one) row₀ filled.holds (rw w.here at e) (levels_are w.all w.fit w.divisor (middle_span along))
            ∙ ap (λ k. steps (starting_at at (levels n p)) at k row₀) (omega (arith, in_order_lem));
      }

      pub right_filled : Along right cubic → {before : List ℤ} → Filled n p at row₀ two before → FilledBy cubic (a + two) d (at + two) (count - two) before row → Filled n p at row₀ count row
      right_filled along filled e = record {
        holds = starting_more (levels n p) _ at two (count - two) row₀ filled.holds (rw w.here at e) (levels_are w.all w.fit w.divisor (right_span along))
            ∙ ap (λ k. steps (starting_at at (levels n p)) at k row₀) (omega (arith, in_order_lem));
      }

-- from what the calls ensure; `seen` is the first pixel as the code reads it
pub known : {n : CornerNumbers} {p seen : Pixel} {count : ℕ} {d : Denominator} {ends : Ends} {one two : ℕ} {z : ℤ} → AllWithin largest n → (fit : FitsCell p count) → (is : seen ≡ p)
    → (e : z ≡ denominator_of seen) → d ≡ constants (divisor (subst⁻¹ PixelInCell is fit.inside) e).read → ends ≡ ends_of p
    → one ≡ min count (ends.left - seen.a) → two ≡ min count (ends.middle - seen.a) → Known n p count seen.a d one two
known all fit is e made ends lefts both = let here = ap (λ p. p.a) is in record {
  all = all;
  fit = fit;
  here = here;
  divisor = made ∙ ap constants ((divisor (subst⁻¹ PixelInCell is fit.inside) e).reads ∙ ap denominator_of is);
  parted = parted here ends lefts both;
}
