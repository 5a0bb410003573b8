-- The set we read from as expressions, so that what is claimed of it can be decided. Assumes nothing.
use mathlib.Core.Path.{◌≡◌, refl}
use mathlib.Core.List.{List, [], ◌∷◌}
use lib.ListN.{get_or}
use lib.IntN.{ℤ, pos}
use Rattle.element_sibson.specs.Fraction.{positive}
use Rattle.element_sibson.specs.Cubic.{Power, Jet}
use Rattle.element_sibson.specs.Piece.{Piece, top, right, bottom, left, Corner, left_top, right_top, left_bottom, right_bottom}
use Rattle.element_sibson.specs.Element.{CornerNumbers, in_order, column, weights, weighed, halved, transposed, flipped, mirrored, swap, negate_x, negate_y, exchanged, top_down, left_right, on_top, on_left, sibson}
use Rattle.integers.proofs.Polynomial.{Expr, var, con, #◌, ◌⊕◌, ◌⊗◌, ⊖◌}
use Rattle.element_sibson.proofs.Quote.{Cubicₑ, cubic_ofₑ, transposedₑ, flippedₑ, evaluated}

abbrev pub Cornersₑ : Type 0
Cornersₑ = Corner → Jet Expr

abbrev pub weighedₑ : List (List ℤ) → List Expr → Power → Expr
weighedₑ [] ns p = # 0
weighedₑ (row ∷ rows) [] p = # 0
weighedₑ (row ∷ rows) (n ∷ ns) p = con (get_or row (column p) (pos 0)) ⊗ n ⊕ weighedₑ rows ns p

abbrev pub halvedₑ : List (List ℤ) → Cornersₑ → Cubicₑ
halvedₑ table n = cubic_ofₑ (λ p. weighedₑ table (in_order n) p) (# 2)

abbrev negate_xₑ : Jet Expr → Jet Expr
negate_xₑ c = record { height = c.height; x_slope = ⊖ c.x_slope; y_slope = c.y_slope }

abbrev negate_yₑ : Jet Expr → Jet Expr
negate_yₑ c = record { height = c.height; x_slope = c.x_slope; y_slope = ⊖ c.y_slope }

abbrev top_downₑ : Cornersₑ → Cornersₑ
top_downₑ n left_top = negate_yₑ (n left_bottom)
top_downₑ n right_top = negate_yₑ (n right_bottom)
top_downₑ n left_bottom = negate_yₑ (n left_top)
top_downₑ n right_bottom = negate_yₑ (n right_top)

abbrev left_rightₑ : Cornersₑ → Cornersₑ
left_rightₑ n left_top = negate_xₑ (n right_top)
left_rightₑ n right_top = negate_xₑ (n left_top)
left_rightₑ n left_bottom = negate_xₑ (n right_bottom)
left_rightₑ n right_bottom = negate_xₑ (n left_bottom)

abbrev on_topₑ : Cornersₑ → Cubicₑ
on_topₑ n = halvedₑ weights n

abbrev on_leftₑ : Cornersₑ → Cubicₑ
on_leftₑ n = transposedₑ (on_topₑ (exchanged n))

abbrev pub sibsonₑ : Cornersₑ → Piece → Cubicₑ
sibsonₑ n top = on_topₑ n
sibsonₑ n right = transposedₑ (flippedₑ (transposedₑ (on_leftₑ (left_rightₑ n))))
sibsonₑ n bottom = flippedₑ (on_topₑ (top_downₑ n))
sibsonₑ n left = on_leftₑ n

-- ---- variables from 4 on: the twelve numbers

abbrev pub numbersₑ : Cornersₑ
numbersₑ left_top = record { height = var 4; x_slope = var 5; y_slope = var 6 }
numbersₑ right_top = record { height = var 7; x_slope = var 8; y_slope = var 9 }
numbersₑ left_bottom = record { height = var 10; x_slope = var 11; y_slope = var 12 }
numbersₑ right_bottom = record { height = var 13; x_slope = var 14; y_slope = var 15 }

abbrev pub elementₑ : Piece → Cubicₑ
elementₑ k = sibsonₑ numbersₑ k

-- the quotation is right, whatever the first four variables
pub sibson_is : (x y z w : ℤ) (n : CornerNumbers) (k : Piece) → sibson n k ≡ evaluated (x ∷ y ∷ z ∷ w ∷ in_order n) (elementₑ k) (positive 2 tt)
unfolding in_order weights weighed halved transposed flipped mirrored swap negate_x negate_y exchanged top_down left_right on_top on_left sibson
sibson_is x y z w n top = refl
sibson_is x y z w n right = refl
sibson_is x y z w n bottom = refl
sibson_is x y z w n left = refl
