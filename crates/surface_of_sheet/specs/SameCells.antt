-- Sheets on the same lines have the same cells, and a pixel lies at the same place of both. Assumes nothing.
use Rattle.std.specs.Prelude.{ℕ, ◌≡◌, ◌↔◌, List}
use Rattle.sheet_calls.specs.WellFormed.{Inside}
use Rattle.sheet_calls.specs.OnSameLines.{OnSameLines}
use Rattle.surface_of_sheet.specs.Place.{cell_of, HasCell, place}

-- b has the cells of a, and a pixel lies at the same place of both
pub record SameCells (a b : List ℕ) : Type 0 where
  pub has : (i j : ℕ) → HasCell b i j ↔ HasCell a i j
  pub cells : (i j : ℕ) → HasCell a i j → cell_of b i j ≡ cell_of a i j
  pub inside : (x y : ℕ) → Inside b x y ↔ Inside a x y
  pub places : (x y : ℕ) → place b x y ≡ place a x y

pub record MeshLaws : Type 0 where
  pub same : (a b : List ℕ) → OnSameLines a b → SameCells a b
