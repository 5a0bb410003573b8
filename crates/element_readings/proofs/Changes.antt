-- What a change of a corner's height is multiplied by is the height's weight. Assumes nothing.
use mathlib.Core.Path.{◌≡◌, refl, sym, ◌∙◌, ap, ap₂}
use mathlib.Core.Bool.{Bool, true, false, cond}
use mathlib.Core.List.{[], ◌∷◌, map}
use Prim.Native.Nat.{◌*◌}
use lib.Dec.{eqb}
use lib.IntN.{ℤ, pos, ◌+ℤ◌, ◌*ℤ◌}
use Rattle.integers.proofs.Polynomial.{#◌, ◌⊕◌, ◌⊗◌, ⊖◌}
use Rattle.integers.proofs.Solve.{◌≐◌, solve}
use Rattle.integers.proofs.Deduce.{◌·◌, ◌⊨◌, deduce}
use Rattle.element_sibson.specs.Fraction.{Positive, ◌≈◌, ◌+ℚ◌, ◌·ℚ◌}
use Rattle.element_sibson.specs.Cubic.{Point, Jet, value}
use Rattle.element_sibson.specs.Piece.{Piece, Corner}
use Rattle.element_sibson.specs.Element.{CornerNumbers, in_order, sibson}
use Rattle.element_sibson.proofs.Fractions.{≈_sym, ≈_trans, ≈-+, ≈-·}
use Rattle.element_cell.specs.Corners.{corner_index}
use Rattle.element_readings.specs.WeightSums.{alone, unit_height}
use Rattle.element_readings.specs.CornerWeights.{weight_of, nudged}
use Rattle.element_readings.proofs.WeightSums.{parts}
use Rattle.element_readings.proofs.Form.{form, cube, commonly, common}
use Rattle.element_readings.proofs.Parts.{dot_plus, form_sibson, over_cubes, value_sibson}

-- x + 0 z
unchanged : (x y z : ℤ) → y ≡ pos 0 → x ≡ x +ℤ y *ℤ z
unchanged = deduce 3 (λ x y z. (⊖ z · (y ≐ # 0)) ∷ [] ⊨ x ≐ x ⊕ y ⊗ z) tt

-- what is added to a height is z times a unit height, or z times nothing
added : (b : Bool) (x z : ℤ) → cond b (x +ℤ z) x ≡ x +ℤ (cond b unit_height (record { height = pos 0; x_slope = pos 0; y_slope = pos 0 })).height *ℤ z
added true = solve 2 (λ x z. x ⊕ z ≐ x ⊕ # 1 ⊗ z) tt
added false = solve 2 (λ x z. x ≐ x ⊕ # 0 ⊗ z) tt

-- a unit height has no slopes, nor has nothing
no_slopes : (b : Bool) → let j = cond b unit_height (record { height = pos 0; x_slope = pos 0; y_slope = pos 0 }) in (j.x_slope ≡ pos 0) × (j.y_slope ≡ pos 0)
no_slopes true = (refl, refl)
no_slopes false = (refl, refl)

over_plus : (x y w z : ℤ) (Q : Positive) → x ≡ y +ℤ w *ℤ z → over_cubes y Q +ℚ z ·ℚ over_cubes w Q ≈ over_cubes x Q
over_plus x y w z Q e = record {
  crossed = deduce 5 (λ x y w z d. (⊖ (d ⊗ d) · (x ≐ y ⊕ w ⊗ z)) ∷ [] ⊨ (y ⊗ d ⊕ z ⊗ w ⊗ d) ⊗ d ≐ x ⊗ (d ⊗ d)) tt x y w z (pos (2 * (cube Q).number)) e;
}

module _ (c : Corner) (z : ℤ) (n : CornerNumbers) where
  -- each number with what is added to it for each unit of z
  abbrev changing : Corner → Jet (ℤ × ℤ)
  changing d = let j = alone c unit_height d in record { height = ((n d).height, j.height); x_slope = ((n d).x_slope, j.x_slope); y_slope = ((n d).y_slope, j.y_slope) }

  abbrev changed : CornerNumbers
  changed d = let j = changing d in
      record { height = j.height.0 +ℤ j.height.1 *ℤ z; x_slope = j.x_slope.0 +ℤ j.x_slope.1 *ℤ z; y_slope = j.y_slope.0 +ℤ j.y_slope.1 *ℤ z }

  nudged_is : nudged c z n ≡ changed
  unfolding nudged alone
  nudged_is = λ i d. let s = no_slopes (eqb (corner_index c) (corner_index d)) in record {
    height = added (eqb (corner_index c) (corner_index d)) (n d).height z i;
    x_slope = unchanged (n d).x_slope (changing d).x_slope.1 z s.0 i;
    y_slope = unchanged (n d).y_slope (changing d).y_slope.1 z s.1 i;
  }

  form_nudged : (k : Piece) (A B Q : ℤ) → form (sibson (nudged c z n) k) A B Q ≡ form (sibson n k) A B Q +ℤ form (weight_of c k) A B Q *ℤ z
  unfolding weight_of in_order
  form_nudged k A B Q = let ws = map (λ f. form f A B Q) (parts k) in
      ap (λ m. form (sibson m k) A B Q) nudged_is ∙ form_sibson changed k A B Q ∙ dot_plus z ws (in_order changing)
      ∙ ap₂ (λ x y. x +ℤ y *ℤ z) (sym (form_sibson n k A B Q)) (sym (form_sibson (alone c unit_height) k A B Q))

  pub changes : (k : Piece) (P : Point) → value (sibson (nudged c z n) k) P ≈ value (sibson n k) P +ℚ z ·ℚ value (weight_of c k) P
  unfolding weight_of
  changes k P = let e = common P in
      ≈_trans (value_sibson (nudged c z n) k e)
      (≈_sym (≈_trans (≈-+ (value_sibson n k e) (≈-· z (value_sibson (alone c unit_height) k e)))
      (over_plus (form_at (nudged c z n)) (form_at n) (form_at (alone c unit_height)) z (commonly P).r.denominator (form_nudged k _ _ _))))
    where
      form_at : CornerNumbers → ℤ
      form_at m = let Q = commonly P in form (sibson m k) Q.r.numerator Q.s.numerator (pos Q.r.denominator.number)
