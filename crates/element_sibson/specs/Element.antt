-- The Sibson element: the set we read from. Piece 0 by its weights, the other pieces by turnings (symmetries of the cell). Assumes nothing.
use Rattle.std.specs.Prelude.{List, [], ◌∷◌, ℕ, get_or, ℤ, pos, neg_ℤ, ◌+ℤ◌, ◌*ℤ◌}
use Rattle.element_sibson.specs.Fraction.{positive}
use Rattle.element_sibson.specs.Cubic.{Cell, Cubic, Power, one, r¹, s¹, r², rs, s², r³, r²s, rs², s³, coefficient, cubic_of, Jet}
use Rattle.element_sibson.specs.Piece.{top, right, bottom, left, FourCubics, Corner, left_top, right_top, left_bottom, right_bottom}

-- a cell's nodes: of each, the height in grains and the slopes in grains per pixel
abbrev pub Nodes : Type 0
Nodes = Corner → Jet ℤ

-- a cell's twelve corner numbers: of each corner, the height and the slopes in grains per cell width and per cell height
abbrev pub CornerNumbers : Type 0
CornerNumbers = Corner → Jet ℤ

-- those of nodes: height, W times x-slope, H times y-slope (formulas 102 to 104)
unfoldable pub corner_numbers : Cell → Nodes → CornerNumbers
corner_numbers C m c = record {
  height = (m c).height;
  x_slope = pos C.W.number *ℤ (m c).x_slope;
  y_slope = pos C.H.number *ℤ (m c).y_slope;
}

-- in the order of the weights' rows
unfoldable pub in_order : {A : Type 0} → (Corner → Jet A) → List A
in_order n =
    (n left_top).height ∷ (n left_top).x_slope ∷ (n left_top).y_slope ∷ (n right_top).height ∷ (n right_top).x_slope ∷ (n right_top).y_slope ∷
    (n left_bottom).height ∷ (n left_bottom).x_slope ∷ (n left_bottom).y_slope ∷ (n right_bottom).height ∷ (n right_bottom).x_slope ∷ (n right_bottom).y_slope ∷ []

-- ---- piece 0

-- a power's column
abbrev pub column : Power → ℕ
column one = 0
column r¹ = 1
column s¹ = 2
column r² = 3
column rs = 4
column s² = 5
column r³ = 6
column r²s = 7
column rs² = 8
column s³ = 9

infix 90 +◌ −◌
-- signed literals
abbrev pub +◌ : ℕ → ℤ
+ n = pos n

abbrev pub −◌ : ℕ → ℤ
− n = neg_ℤ (pos n)

-- the doubled weights of piece 0 (formula 105): a row for each corner number, a column for each power
unfoldable pub weights : List (List ℤ)
weights =
    -- 1     r     s     r²    rs    s²    r³    r²s   rs²   s³
    (+ 2 ∷ + 0 ∷ + 0 ∷ − 6 ∷ + 0 ∷ − 6 ∷ + 4 ∷ + 0 ∷ + 6 ∷ + 2 ∷ []) ∷  -- height 00
    (+ 0 ∷ + 2 ∷ + 0 ∷ − 4 ∷ + 0 ∷ − 1 ∷ + 2 ∷ + 0 ∷ + 1 ∷ + 0 ∷ []) ∷  -- x-slope 00
    (+ 0 ∷ + 0 ∷ + 2 ∷ + 0 ∷ − 2 ∷ − 3 ∷ + 0 ∷ + 0 ∷ + 2 ∷ + 1 ∷ []) ∷  -- y-slope 00
    (+ 0 ∷ + 0 ∷ + 0 ∷ + 6 ∷ + 0 ∷ + 0 ∷ − 4 ∷ + 0 ∷ − 6 ∷ + 2 ∷ []) ∷  -- height 10
    (+ 0 ∷ + 0 ∷ + 0 ∷ − 2 ∷ + 0 ∷ + 0 ∷ + 2 ∷ + 0 ∷ + 1 ∷ + 0 ∷ []) ∷  -- x-slope 10
    (+ 0 ∷ + 0 ∷ + 0 ∷ + 0 ∷ + 2 ∷ − 1 ∷ + 0 ∷ + 0 ∷ − 2 ∷ + 1 ∷ []) ∷  -- y-slope 10
    (+ 0 ∷ + 0 ∷ + 0 ∷ + 0 ∷ + 0 ∷ + 6 ∷ + 0 ∷ + 0 ∷ − 6 ∷ − 2 ∷ []) ∷  -- height 01
    (+ 0 ∷ + 0 ∷ + 0 ∷ + 0 ∷ + 0 ∷ + 1 ∷ + 0 ∷ + 0 ∷ − 1 ∷ + 0 ∷ []) ∷  -- x-slope 01
    (+ 0 ∷ + 0 ∷ + 0 ∷ + 0 ∷ + 0 ∷ − 2 ∷ + 0 ∷ + 0 ∷ + 2 ∷ + 1 ∷ []) ∷  -- y-slope 01
    (+ 0 ∷ + 0 ∷ + 0 ∷ + 0 ∷ + 0 ∷ + 0 ∷ + 0 ∷ + 0 ∷ + 6 ∷ − 2 ∷ []) ∷  -- height 11
    (+ 0 ∷ + 0 ∷ + 0 ∷ + 0 ∷ + 0 ∷ + 0 ∷ + 0 ∷ + 0 ∷ − 1 ∷ + 0 ∷ []) ∷  -- x-slope 11
    (+ 0 ∷ + 0 ∷ + 0 ∷ + 0 ∷ + 0 ∷ + 0 ∷ + 0 ∷ + 0 ∷ − 2 ∷ + 1 ∷ []) ∷ []  -- y-slope 11

-- the entries of a column, each times its row's number, added
unfoldable pub weighed : List (List ℤ) → List ℤ → Power → ℤ
weighed [] ns p = pos 0
weighed (row ∷ rows) [] p = pos 0
weighed (row ∷ rows) (n ∷ ns) p = get_or row (column p) (pos 0) *ℤ n +ℤ weighed rows ns p

-- the cubic that a table of doubled weights gives for twelve corner numbers
unfoldable pub halved : List (List ℤ) → CornerNumbers → Cubic
halved table n = cubic_of (λ p. weighed table (in_order n) p) (positive 2 tt)

-- ---- turnings: of a cubic, by substitution, and of corner numbers

-- a power with r and s exchanged
abbrev pub exchange : Power → Power
exchange one = one
exchange r¹ = s¹
exchange s¹ = r¹
exchange r² = s²
exchange rs = rs
exchange s² = r²
exchange r³ = s³
exchange r²s = rs²
exchange rs² = r²s
exchange s³ = r³

-- the cubic at (s, r)
unfoldable pub transposed : Cubic → Cubic
transposed f = cubic_of (λ p. coefficient f (exchange p)) f.divisor

-- the cubic at (r, 1 − s)
unfoldable pub flipped : Cubic → Cubic
flipped f = record {
  c00 = f.c00 +ℤ f.c01 +ℤ f.c02 +ℤ f.c03;
  c10 = f.c10 +ℤ f.c11 +ℤ f.c12;
  c01 = neg_ℤ (f.c01 +ℤ pos 2 *ℤ f.c02 +ℤ pos 3 *ℤ f.c03);
  c20 = f.c20 +ℤ f.c21;
  c11 = neg_ℤ (f.c11 +ℤ pos 2 *ℤ f.c12);
  c02 = f.c02 +ℤ pos 3 *ℤ f.c03;
  c30 = f.c30;
  c21 = neg_ℤ f.c21;
  c12 = f.c12;
  c03 = neg_ℤ f.c03;
  divisor = f.divisor;
}

-- the cubic at (1 − r, s)
unfoldable pub mirrored : Cubic → Cubic
mirrored f = transposed (flipped (transposed f))

-- a corner's slopes exchanged or negated
unfoldable pub swap : {A : Type 0} → Jet A → Jet A
swap c = record { height = c.height; x_slope = c.y_slope; y_slope = c.x_slope }

unfoldable pub negate_x : Jet ℤ → Jet ℤ
negate_x c = record { height = c.height; x_slope = neg_ℤ c.x_slope; y_slope = c.y_slope }

unfoldable pub negate_y : Jet ℤ → Jet ℤ
negate_y c = record { height = c.height; x_slope = c.x_slope; y_slope = neg_ℤ c.y_slope }

-- corners 10 and 01 exchanged, x-slopes exchanged with y-slopes
unfoldable pub exchanged : {A : Type 0} → (Corner → Jet A) → Corner → Jet A
exchanged n left_top = swap (n left_top)
exchanged n right_top = swap (n left_bottom)
exchanged n left_bottom = swap (n right_top)
exchanged n right_bottom = swap (n right_bottom)

-- top and bottom corners exchanged, y-slopes negated
unfoldable pub top_down : CornerNumbers → CornerNumbers
top_down n left_top = negate_y (n left_bottom)
top_down n right_top = negate_y (n right_bottom)
top_down n left_bottom = negate_y (n left_top)
top_down n right_bottom = negate_y (n right_top)

-- left and right corners exchanged, x-slopes negated
unfoldable pub left_right : CornerNumbers → CornerNumbers
left_right n left_top = negate_x (n right_top)
left_right n right_top = negate_x (n left_top)
left_right n left_bottom = negate_x (n right_bottom)
left_right n right_bottom = negate_x (n left_bottom)

-- ---- the set we read from, for a cell's twelve corner numbers

-- piece 0, and piece 3: piece 0 at (s, r)
unfoldable pub on_top : CornerNumbers → Cubic
on_top n = halved weights n

unfoldable pub on_left : CornerNumbers → Cubic
on_left n = transposed (on_top (exchanged n))

-- piece 2 is piece 0 at (r, 1 − s), piece 1 is piece 3 at (1 − r, s)
unfoldable pub sibson : CornerNumbers → FourCubics
sibson n top = on_top n
sibson n right = mirrored (on_left (left_right n))
sibson n bottom = flipped (on_top (top_down n))
sibson n left = on_left n

-- the same for a cell's nodes
unfoldable pub element : Cell → Nodes → FourCubics
element C m = sibson (corner_numbers C m)
