-- A sheet of four cells: the pieces that touch its pixels, and the bends from each, computed on the definitions. Assumes nothing.
use Rattle.std.specs.Prelude.{ℕ, ◌≡◌, List, [], ◌∷◌, ◌++◌, map, ℤ, length}
use Rattle.element_sibson.specs.Piece.{top, right, bottom, left}
use Rattle.element_sibson.specs.Element.{+◌, −◌}
use Rattle.sheet_layout.specs.UnevenMesh.{uneven_mesh}
use Rattle.surface_of_sheet.specs.Place.{seen}
use Rattle.surface_of_sheet.specs.Examples.{sevens}
use Rattle.surface_bends.specs.Bends.{touching_places, Tally, counted, with_bends}

-- a pixel, a buffer, what the call on it answers, and what it leaves there
pub record Example : Type 0 where
  pub x : ℕ
  pub y : ℕ
  pub buffer : List ℤ
  pub gives : Tally
  pub leaves : List ℤ

-- so many pieces, their bends, and so many places behind these in a buffer of 24
abbrev pub listed_at : ℕ → ℕ → ℕ → List ℤ → ℕ → Example
listed_at x y pieces zs behind = record {
  x = x;
  y = y;
  buffer = sevens 24;
  gives = record { number = 0; pieces = pieces };
  leaves = zs ++ sevens behind;
}

-- a refusal: the buffer as it was
abbrev pub declined : ℕ → ℕ → ℕ → ℕ → Example
declined x y places n = record { x = x; y = y; buffer = sevens places; gives = record { number = n; pieces = 0 }; leaves = sevens places }

abbrev pub examples : List Example
examples =
    -- inside a piece; on an outer line; at an outer corner
    listed_at 4 1 1 (+ 5136 ∷ − 16 ∷ − 5022 ∷ []) 21 ∷
    listed_at 4 0 1 (+ 5136 ∷ − 96 ∷ − 7579 ∷ []) 21 ∷
    listed_at 3 0 2 (+ 10272 ∷ − 96 ∷ − 7659 ∷ + 10128 ∷ + 0 ∷ − 7723 ∷ []) 18 ∷
    listed_at 15 8 2 (− 3756 ∷ − 576 ∷ + 69248 ∷ − 3888 ∷ − 48 ∷ + 67136 ∷ []) 18 ∷
    -- on an inner line, across and down
    listed_at 7 1 2 (− 10368 ∷ − 96 ∷ − 4846 ∷ + 2568 ∷ − 96 ∷ − 4846 ∷ []) 18 ∷
    listed_at 4 6 2 (+ 5208 ∷ − 96 ∷ + 7856 ∷ + 5208 ∷ − 96 ∷ − 70192 ∷ []) 18 ∷
    -- at a cell's centre; where an inner line meets an outer one; where two inner lines cross
    listed_at 5 3 4 (+ 0 ∷ + 144 ∷ + 171 ∷ − 72 ∷ + 96 ∷ + 139 ∷ − 144 ∷ + 144 ∷ + 107 ∷ − 72 ∷ + 192 ∷ + 139 ∷ []) 12 ∷
    listed_at 7 0 4 (− 10272 ∷ − 96 ∷ − 7339 ∷ − 10272 ∷ − 96 ∷ − 7339 ∷ + 2448 ∷ − 48 ∷ − 7403 ∷ + 2484 ∷ − 96 ∷ − 7339 ∷ []) 12 ∷
    listed_at 7 6 8
    (− 10848 ∷ − 96 ∷ + 7616 ∷ − 10848 ∷ − 96 ∷ + 7616 ∷ + 3024 ∷ − 48 ∷ + 7680 ∷ + 2988 ∷ − 96 ∷ + 7616 ∷
    − 10848 ∷ − 96 ∷ − 69184 ∷ − 10944 ∷ − 288 ∷ − 69568 ∷ + 3024 ∷ − 48 ∷ − 70528 ∷ + 3084 ∷ − 288 ∷ − 69568 ∷ []) 0 ∷
    -- refused: one place too few, though one piece touches the pixel; outside, and too few
    declined 4 0 23 14 ∷
    declined 16 0 23 7 ∷ []

pub record Examples : Type 0 where
  pub answers : map (λ e. counted uneven_mesh e.x e.y (length e.buffer)) examples ≡ map (λ e. e.gives) examples
  pub buffers : map (λ e. with_bends uneven_mesh e.x e.y e.buffer) examples ≡ map (λ e. e.leaves) examples
  -- the eight pieces where two inner lines cross, in order
  pub eight : touching_places uneven_mesh 7 6
      ≡ seen uneven_mesh 0 0 right 7 6 ∷ seen uneven_mesh 0 0 bottom 7 6 ∷ seen uneven_mesh 1 0 bottom 7 6 ∷ seen uneven_mesh 1 0 left 7 6 ∷
      seen uneven_mesh 0 1 top 7 6 ∷ seen uneven_mesh 0 1 right 7 6 ∷ seen uneven_mesh 1 1 top 7 6 ∷ seen uneven_mesh 1 1 left 7 6 ∷ []
