-- How many pieces touch a pixel: at most eight, and on the mesh at least one. Assumes nothing.
use Prim.Native.Nat.{ℕ, suc, ◌*◌, ◌-◌, ◌≤◌, ◌<◌}
use mathlib.Core.Logic.{◌⊎◌, inl, inr}
use mathlib.Core.List.{List}
use native.Mathlib.Omega.{arith}
use native.Mathlib.Nat.{mul-le-mul, mul-le-mul_left}
use native.Mathlib.Decide.{ℕ_discrete, dec_lt}
use lib.ListN.{length}
use Rattle.element_sibson.specs.Piece.{Piece}
use Rattle.sheet_layout.specs.Format.{columns, rows, line_x, line_y}
use Rattle.sheet_calls.specs.Refusals.{Accepted}
use Rattle.sheet_calls.specs.WellFormed.{Inside}
use Rattle.surface_of_sheet.specs.Place.{point_at, columns_at, rows_at, place, seen}
use Rattle.surface_of_sheet.specs.Touching.{Touches}
use Rattle.surface_of_sheet.proofs.CellsAlong.{low_below}
use Rattle.surface_of_sheet.proofs.Cells.{sound, x_rising, y_rising}
use Rattle.surface_of_sheet.proofs.Places.{place_laws}
use Rattle.surface_bends.specs.Bends.{in_turn, touching_in, touching_places, entry_place}
use Rattle.surface_bends.proofs.InTurn.{most_in_turn}
use Rattle.surface_bends.proofs.Touched.{columns_there, rows_there, none_left, none_right, none_above, none_below}
use Rattle.surface_bends.proofs.Listing.{every, only}
use Rattle.surface_bends.proofs.Edges.{near, on_either, OnEdge, four_most, two_most, across_end, down_end}

-- ---- at a pixel of the mesh

module _ (s : List ℕ) (accepted : Accepted s) (x y : ℕ) (inside : Inside s x y) where
  -- its columns and rows, at most two of each
  abbrev across : ℕ
  across = suc (columns_at s x).highest - (columns_at s x).lowest

  abbrev down : ℕ
  down = suc (rows_at s y).highest - (rows_at s y).lowest

  -- as many cells as its columns and rows, with at most c pieces each
  most_by : (c : ℕ) → ((j i : ℕ) → length (touching_in s x y j i) ≤ c) → length (touching_places s x y) ≤ c * across * down
  unfolding touching_places
  most_by c each =
      most_in_turn (c * across) (rows_at s y).lowest (λ j. in_turn (columns s - 1) (touching_in s x y j)) row (none_above s accepted x y inside _)
      (rows_at s y).highest (rows s - 1) (low_below (line_y s) y (rows s - 2)) (omega (arith, rows_there s accepted x y inside)) (none_below s accepted x y inside _)
    where
      row : (j : ℕ) → length (in_turn (columns s - 1) (touching_in s x y j)) ≤ c * across
      row j = most_in_turn c (columns_at s x).lowest (touching_in s x y j) (each j) (none_left s accepted x y inside j)
          (columns_at s x).highest (columns s - 1) (low_below (line_x s) x (columns s - 2)) (omega (arith, columns_there s accepted x y inside))
          (none_right s accepted x y inside j)

  abbrev OnInner : Type 0
  OnInner = ((columns_at s x).lowest < (columns_at s x).highest) ⊎ ((rows_at s y).lowest < (rows_at s y).highest)

  -- on an inner line it lies on an edge of each of its cells
  on_edge_lem : OnInner → {i j : ℕ} {k : Piece} → Touches s (seen s i j k x y) x y → OnEdge (point_at s (seen s i j k x y))
  on_edge_lem (inl h) {i} {j} t = inl (across_end s accepted t
      (on_either (x_rising s accepted) (sound s accepted).few_columns inside.left inside.right h i t.has.column (omega (arith, t.across)) t.to_right))
  on_edge_lem (inr h) {i} {j} t = inr (down_end s accepted t
      (on_either (y_rising s accepted) (sound s accepted).few_rows inside.top inside.bottom h j t.has.row (omega (arith, t.down)) t.to_bottom))

  on_inner : OnInner → length (touching_places s x y) ≤ 8
  on_inner h =
      let wide = near (x_rising s accepted) (sound s accepted).few_columns inside.left inside.right in
      let high = near (y_rising s accepted) (sound s accepted).few_rows inside.top inside.bottom in
      let all = most_by 2 (λ j i. two_most s x y j i (λ k t. on_edge_lem h t)) in
      let most = mul-le-mul (mul-le-mul_left 2 wide) high in omega arith

  most_inside : length (touching_places s x y) ≤ 8
  most_inside = elim (dec_lt (columns_at s x).lowest (columns_at s x).highest) [
    | yes h ↦ on_inner (inl h)
    | no h ↦ elim (dec_lt (rows_at s y).lowest (rows_at s y).highest) [
      | yes k ↦ on_inner (inr k)
      | no k ↦
          let wide : across ≤ 1 = omega arith in let high : down ≤ 1 = omega arith in
          let all = most_by 4 (λ j i. four_most s x y j i) in let most = mul-le-mul (mul-le-mul_left 4 wide) high in omega arith
    ]
  ]

-- a pixel that a piece touches is one of the mesh
pub most : (s : List ℕ) (x y : ℕ) → Accepted s → length (touching_places s x y) ≤ 8
most s x y accepted = elim (ℕ_discrete (length (touching_places s x y)) 0) [
  | yes e ↦ omega arith
  | no h ↦ most_inside s accepted x y (place_laws.inside s (entry_place s x y 0) x y accepted (only s x y 0 (omega arith)))
]

pub least : (s : List ℕ) (x y : ℕ) → Accepted s → Inside s x y → 1 ≤ length (touching_places s x y)
least s x y accepted inside = let p = every s x y (place s x y) (place_laws.there s x y accepted inside) in omega (arith, p.below)
