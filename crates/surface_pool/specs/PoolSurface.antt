-- The surface of a pool is the sum of the two surfaces, and its levels are at most a grain from the sums of theirs. Assumes nothing.
use Rattle.std.specs.Prelude.{ℕ, List, ◌+ℤ◌, ◌-ℤ◌}
use Rattle.integers.specs.Within.{◌within◌}
use Rattle.element_sibson.specs.Cubic.{◌≋◌}
use Rattle.element_sibson.specs.Piece.{Piece}
use Rattle.element_sums.specs.Sums.{◌+ⱼ◌, SumOf}
use Rattle.sheet_pool.specs.PoolLaws.{IsPool, Grouped}
use Rattle.surface_of_sheet.specs.Place.{HasCell, place}
use Rattle.surface_of_sheet.specs.Surface.{set_of, jet_at, level}

pub record PoolSurface : Type 0 where
  -- on every cell and piece each of the cubic's coefficients is the sum of the two, as fractions
  pub sets : (a b p : List ℕ) → IsPool a b p → (i j : ℕ) → HasCell a i j → (k : Piece) → SumOf (set_of a i j k) (set_of b i j k) (set_of p i j k)
  -- so at every pixel height and slopes are sums too, and the level is at most 1 from the sum of the levels
  pub jets : (a b p : List ℕ) → IsPool a b p → (x y : ℕ) → jet_at p (place p x y) ≋ jet_at a (place a x y) +ⱼ jet_at b (place b x y)
  pub levels : (a b p : List ℕ) → IsPool a b p → (x y : ℕ) → (level p x y -ℤ (level a x y +ℤ level b x y)) within 1
  -- also of three sheets, grouped either way
  pub three_levels : (a b c p : List ℕ) → Grouped IsPool a b c p → (x y : ℕ) → (level p x y -ℤ (level a x y +ℤ level b x y +ℤ level c x y)) within 1
