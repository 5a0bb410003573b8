-- Heights, slopes and levels of a pool at a pixel. Assumes nothing.
use Prim.Native.Nat.{ℕ}
use mathlib.Core.Logic.{⊎_elim}
use mathlib.Core.List.{List, []}
use lib.IntN.{◌+ℤ◌, ◌-ℤ◌}
use Rattle.integers.specs.Within.{◌within◌}
use Rattle.element_sibson.specs.Fraction.{ℚ, ◌≈◌, ◌+ℚ◌}
use Rattle.element_sibson.specs.Cubic.{◌≋◌}
use Rattle.element_sibson.proofs.Fractions.{≈_refl, ≈_trans, ≈-+}
use Rattle.element_sibson.proofs.Quote.{◌+ₑ◌, equal, fractionₑ, fraction}
use Rattle.element_sums.specs.Sums.{◌+ⱼ◌}
use Rattle.element_sums.proofs.Sums.{sum_laws}
use Rattle.element_readings.specs.Reading.{level_of}
use Rattle.sheet_calls.specs.Refusals.{Accepted}
use Rattle.sheet_pool.specs.PoolLaws.{IsPool, FirstTwo, LastTwo, Grouped}
use Rattle.surface_of_sheet.specs.Place.{HasCell, cell_at, point_at, place}
use Rattle.surface_of_sheet.specs.Surface.{jet_at, level_at, level}
use Rattle.surface_of_sheet.proofs.Places.{has_cell}
use Rattle.surface_of_sheet.proofs.SameCells.{same_cells}
use Rattle.surface_pool.specs.PoolSurface.{PoolSurface}
use Rattle.surface_pool.proofs.Cells.{pool_cells}
use Rattle.surface_pool.proofs.Sets.{sets}

regrouped : (x y z : ℚ) → x +ℚ (y +ℚ z) ≈ x +ℚ y +ℚ z
regrouped x y z = record {
  crossed = equal (fractionₑ 0 +ₑ (fractionₑ 2 +ₑ fractionₑ 4)) (fractionₑ 0 +ₑ fractionₑ 2 +ₑ fractionₑ 4) tt (fraction x (fraction y (fraction z [])));
}

-- the exact height at a pixel
abbrev height : List ℕ → ℕ → ℕ → ℚ
height s x y = (jet_at s (place s x y)).height

-- a pixel's place is in a cell of the sheet
has_place : {s : List ℕ} → Accepted s → (x y : ℕ) → HasCell s (place s x y).column (place s x y).row
unfolding place
has_place {s} a = has_cell s a

module _ {a b p : List ℕ} (pool : IsPool a b p) (x y : ℕ) where
  jets : jet_at p (place p x y) ≋ jet_at a (place a x y) +ⱼ jet_at b (place b x y)
  unfolding jet_at
  jets =
      let at = place a x y in
      let h = has_place pool.pair.first_accepted x y in
      let b-cells = same_cells pool.pair in
      let p-cells = pool_cells pool in
      rw (p-cells.places x y, b-cells.places x y, p-cells.cells _ _ h, b-cells.cells _ _ h)
      (sum_laws.jets (sets pool _ _ h at.piece) (cell_at a at) (point_at a at))

  heights : height p x y ≈ height a x y +ℚ height b x y
  heights = jets.heights

  levels : (level p x y -ℤ (level a x y +ℤ level b x y)) within 1
  unfolding level level_at level_of jet_at
  levels = sum_laws.two_rounded (height a x y) (height b x y) heights

module _ {a b c p : List ℕ} (x y : ℕ) where
  first_two : FirstTwo IsPool a b c p → height p x y ≈ height a x y +ℚ height b x y +ℚ height c x y
  first_two t =
      ≈_trans (heights t.outer x y)
      (≈-+ {x = height t.between x y} {x' = height a x y +ℚ height b x y} {y = height c x y} {y' = height c x y} (heights t.inner x y) (≈_refl (height c x y)))

  last_two_lem : LastTwo IsPool a b c p → height p x y ≈ height a x y +ℚ height b x y +ℚ height c x y
  last_two_lem t =
      ≈_trans (heights t.outer x y)
      (≈_trans
      (≈-+ {x = height a x y} {x' = height a x y} {y = height t.between x y} {y' = height b x y +ℚ height c x y} (≈_refl (height a x y)) (heights t.inner x y))
      (regrouped (height a x y) (height b x y) (height c x y)))

  three_levels_lem : Grouped IsPool a b c p → (level p x y -ℤ (level a x y +ℤ level b x y +ℤ level c x y)) within 1
  unfolding level level_at level_of jet_at
  three_levels_lem t = sum_laws.three_rounded (height a x y) (height b x y) (height c x y) (⊎_elim first_two last_two_lem t)

pub pool_surface : PoolSurface
pool_surface = record {
  sets = λ a b p pool. sets pool;
  jets = λ a b p. jets;
  levels = λ a b p. levels;
  three_levels = λ a b c p t x y. three_levels_lem x y t;
}
