-- A cell lists at most four pieces, and at most two where the pixel lies on one of its edges: opposite pieces meet at its centre only. Assumes nothing.
use Prim.Native.Nat.{ℕ, suc, ◌+◌, ◌-◌, ◌≤◌, ◌<◌}
use mathlib.Core.Path.{◌≡◌, refl}
use mathlib.Core.Logic.{◌⊎◌, inl, inr}
use mathlib.Core.List.{List, [], ◌∷◌, flat_map}
use mathlib.Core.Bool.{Bool, true, false, cond}
use native.Mathlib.Omega.{arith}
use native.Mathlib.Decide.{ℕ_discrete, dec_lt}
use lib.Dec.{T}
use lib.IntN.{pos}
use lib.ListN.{length, length-append}
use Rattle.element_sibson.specs.Fraction.{ℚ, ◌≈◌, whole, complement}
use Rattle.element_sibson.specs.Cubic.{Point}
use Rattle.element_sibson.specs.Piece.{Piece, top, right, bottom, left, triangle}
use Rattle.element_sibson.proofs.Fractions.{fraction_laws, ≈_sym, ≈_trans, ≈_complement, ≤_antisym, ≤_swap, ≤_swap'}
use Rattle.element_sibson.proofs.Covers.{inside}
use Rattle.sheet_layout.specs.Format.{line_x, line_y}
use Rattle.sheet_calls.specs.Refusals.{Accepted}
use Rattle.sheet_calls.specs.WellFormed.{Rising}
use Rattle.sheet_calls.proofs.Rising.{rise}
use Rattle.surface_of_sheet.specs.Place.{cells_along, point_at, seen, touches}
use Rattle.surface_of_sheet.specs.Touching.{Touches}
use Rattle.surface_of_sheet.proofs.Along.{axis_cell}
use Rattle.surface_of_sheet.proofs.CellsAlong.{cell_laws}
use Rattle.surface_of_sheet.proofs.Cells.{width_back, height_back}
use Rattle.surface_of_sheet.proofs.EdgePoints.{at_start, at_end}
use Rattle.surface_of_sheet.proofs.Places.{touched}
use Rattle.surface_bends.specs.Bends.{if_touching, touching_in}

-- ---- along an axis

module _ {line : ℕ → ℕ} {n position : ℕ} (r : Rising line n) (few : 2 ≤ n) (first : line 0 ≤ position) (last : position ≤ line (n - 1)) where
  abbrev low : ℕ
  low = (cells_along line (n - 2) position).lowest

  abbrev high : ℕ
  high = (cells_along line (n - 2) position).highest

  -- where the lowest and the highest cell differ, they are two in a row, and the position is the line between
  pub two_cells : low < high → (high ≡ suc low) × (position ≡ line high)
  two_cells h =
      let there = axis_cell line few position in
      let (a, ends) = (cell_laws.between line n position low r first last (omega arith)).1 (omega arith) in
      let (starts, b) = (cell_laws.between line n position high r first last there).1 (omega arith) in
      let up = rise r (suc low) high h (omega arith) in
      elim (dec_lt (suc low) high) [
        | yes l ↦ absurd (let more = rise r (suc (suc low)) high l (omega arith) in let step = r.rises (suc low) (omega arith) in omega arith)
        | no l ↦ (omega arith, omega arith)
      ]

  -- so there are at most two
  pub near : suc high - low ≤ 2
  near = elim (dec_lt low high) [ yes h ↦ let e = (two_cells h).0 in omega arith | no h ↦ omega arith ]

  -- and each has the position on one of its lines
  pub on_either : low < high → (i : ℕ) → suc i < n → line i ≤ position → position ≤ line (suc i) → (position ≡ line i) ⊎ (position ≡ line (suc i))
  on_either h i l starts ends =
      let (same, at) = two_cells h in let (from, to) = (cell_laws.between line n position i r first last l).0 (starts, ends) in
      elim (ℕ_discrete i high) [
        | yes e ↦ inl (rw e at)
        | no d ↦ let e : suc i ≡ high = omega arith in inr (rw e at)
      ]

-- ---- on an edge: r or s is 0 or 1

abbrev pub AtEnd : ℚ → Type 0
AtEnd q = (q ≈ whole (pos 0)) ⊎ (q ≈ whole (pos 1))

abbrev pub OnEdge : Point → Type 0
OnEdge P = AtEnd P.r ⊎ AtEnd P.s

-- neither is a half
end_no_half : {q : ℚ} → AtEnd q → ¬ (q ≈ complement q)
end_no_half (inl e) f = fraction_laws.distinct (≈_trans (≈_sym e) (≈_trans f (≈_trans (≈_complement e) (record { crossed = refl }))))
end_no_half (inr e) f = fraction_laws.distinct (≈_sym (≈_trans (≈_sym e) (≈_trans f (≈_trans (≈_complement e) (record { crossed = refl })))))

no_centre : {P : Point} → OnEdge P → P.r ≈ P.s → ¬ (P.r ≈ complement P.s)
no_centre (inl h) e f = end_no_half h (≈_trans f (≈_complement (≈_sym e)))
no_centre (inr h) e f = end_no_half h (≈_trans (≈_sym e) f)

module _ (P : Point) (edge : OnEdge P) where
  not_top_bottom : T (triangle top P) → ¬ T (triangle bottom P)
  not_top_bottom t u = let (a, b) = inside top P t in let (c, d) = inside bottom P u in no_centre edge (≤_antisym c a) (≤_antisym (≤_swap b) (≤_swap' d))

  not_right_left : T (triangle right P) → ¬ T (triangle left P)
  not_right_left t u = let (a, b) = inside right P t in let (c, d) = inside left P u in no_centre edge (≤_antisym c a) (≤_antisym d b)

-- ---- how many a cell lists

one_most : {A : Type 0} (b : Bool) (p : A) → length (cond b (p ∷ []) []) ≤ 1
one_most true p = omega arith
one_most false p = omega arith

pair_most : {A : Type 0} (b c : Bool) (p q : A) → (T b → ¬ T c) → length (cond b (p ∷ []) []) + length (cond c (q ∷ []) []) ≤ 1
pair_most true true p q h = absurd (h tt tt)
pair_most true false p q h = omega arith
pair_most false c p q h = let one = one_most c q in omega arith

module _ (s : List ℕ) (x y j i : ℕ) where
  abbrev test : Piece → Bool
  test k = touches s (seen s i j k x y) x y

  pub four_most : length (touching_in s x y j i) ≤ 4
  unfolding touching_in if_touching flat_map
  four_most = simp length-append (omega (
    arith,
    one_most (test top) (seen s i j top x y),
    one_most (test right) (seen s i j right x y),
    one_most (test bottom) (seen s i j bottom x y),
    one_most (test left) (seen s i j left x y),
  ))

  pub two_most : ((k : Piece) → Touches s (seen s i j k x y) x y → OnEdge (point_at s (seen s i j k x y))) → length (touching_in s x y j i) ≤ 2
  unfolding touching_in if_touching flat_map
  two_most edge = simp length-append (omega (
    arith,
    pair_most (test top) (test bottom) (seen s i j top x y) (seen s i j bottom x y) across,
    pair_most (test right) (test left) (seen s i j right x y) (seen s i j left x y) along,
  ))
    where
      at : (k : Piece) → T (test k) → Touches s (seen s i j k x y) x y
      at k t = touched s (seen s i j k x y) x y t

      across : T (test top) → ¬ T (test bottom)
      across t u = not_top_bottom _ (edge top (at top t)) (at top t).piece (at bottom u).piece

      along : T (test right) → ¬ T (test left)
      along t u = not_right_left _ (edge right (at right t)) (at right t).piece (at left u).piece

-- ---- a pixel on one of the cell's lines lies on an edge

module _ (s : List ℕ) (accepted : Accepted s) {x y i j : ℕ} {k : Piece} (t : Touches s (seen s i j k x y) x y) where
  pub across_end : (x ≡ line_x s i) ⊎ (x ≡ line_x s (suc i)) → AtEnd (point_at s (seen s i j k x y)).r
  across_end (inl e) = inl (at_start _ (omega (arith, e)))
  across_end (inr e) = inr (at_end _ (omega (arith, e, width_back s accepted i j t.has)))

  pub down_end : (y ≡ line_y s j) ⊎ (y ≡ line_y s (suc j)) → AtEnd (point_at s (seen s i j k x y)).s
  down_end (inl e) = inl (at_start _ (omega (arith, e)))
  down_end (inr e) = inr (at_end _ (omega (arith, e, height_back s accepted i j t.has)))
