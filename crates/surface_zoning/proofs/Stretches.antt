-- A stretch of pixels that the same zones hold: its zoned levels are the levels under one clamp. Assumes nothing.
use Rattle.std.proofs.Common.{ℕ, zero, suc, ◌+◌, ◌<◌, ◌≡◌, refl, sym, ◌∙◌, ap, subst, true, List, ◌∷◌, map, length, ℤ, arith}
use Rattle.std.proofs.Math.Nat.{add-zero, suc-add, add-suc, le_of_lt}
use Rattle.std.proofs.lemmas.List.{map-id}
use Rattle.integers.specs.Within.{◌within◌}
use Rattle.integers.proofs.Bounds.{is_within}
use Rattle.sheet_calls.specs.Refusals.{Accepted}
use Rattle.sheet_calls.specs.WellFormed.{Inside, OnMesh}
use Rattle.sheet_zones.specs.Zones.{limited}
use Rattle.sheet_zoning.specs.Clamps.{level_bound, clamp_at, clamped, leaves_all, Stretch}
use Rattle.sheet_zoning.specs.declared.Clamp.{Clamp}
use Rattle.sheet_zoning.proofs.Clamped.{as_clamp, left_alone}
use Rattle.surface_of_sheet.specs.Surface.{level}
use Rattle.surface_of_sheet.specs.Run.{levels_along, after_steps}
use Rattle.surface_of_sheet.proofs.Runs.{run_laws}
use Rattle.surface_of_sheet.proofs.Sizes.{level_below}
use Rattle.surface_zones.specs.Zoned.{zoned_level, zoned_along}

-- every level lies between −2²⁰ and 2²⁰
pub level_near : (s : List ℕ) (x y : ℕ) → Accepted s → Inside s x y → level s x y within level_bound
level_near s x y accepted inside = is_within (level s x y) (le_of_lt (level_below s x y accepted inside))

-- zoned levels that one map makes of the levels
under_map : (f : ℤ → ℤ) (s b : List ℕ) (x y n : ℕ) → ((k : ℕ) → k < n → zoned_level s b (x + k) y ≡ f (level s (x + k) y))
    → zoned_along s b x y n ≡ map f (levels_along s x y n)
unfolding levels_along zoned_along
under_map f s b x y zero h = refl
under_map f s b x y (suc n) h =
    let moved : (i j : ℕ) → i ≡ j → zoned_level s b i y ≡ f (level s i y) → zoned_level s b j y ≡ f (level s j y) = λ i j. subst (λ k. zoned_level s b k y ≡ f (level s k y)) in
    λ t. moved _ _ (add-zero x) (h 0 (omega arith)) t ∷ under_map f s b (suc x) y n (λ k l. moved _ _ (add-suc x k ∙ sym (suc-add x k)) (h (suc k) (omega (arith, l)))) t

module _ (s b : List ℕ) (x y n : ℕ) (mesh : OnMesh s x y n) (stretch : Stretch b x y n) where
  near : (k : ℕ) → k < n → level s (x + k) y within level_bound
  near k h = level_near s (x + k) y mesh.accepted (mesh.each k h)

  by_clamp : (k : ℕ) → k < n → zoned_level s b (x + k) y ≡ clamped (clamp_at b x y) (level s (x + k) y)
  unfolding zoned_level
  by_clamp k h = ap (λ zs. limited zs (level s (x + k) y)) (stretch.same k h) ∙ as_clamp b x y (near k h)

  clamped_along : zoned_along s b x y n ≡ map (clamped (clamp_at b x y)) (levels_along s x y n)
  clamped_along = under_map (clamped (clamp_at b x y)) s b x y n by_clamp

  plain_along : leaves_all (clamp_at b x y) ≡ true → zoned_along s b x y n ≡ levels_along s x y n
  plain_along e = under_map (λ z. z) s b x y n (λ k h. by_clamp k h ∙ left_alone (clamp_at b x y) e (near k h)) ∙ map-id (levels_along s x y n)

  -- a row of the levels, and the clamp that the stretch's zones make
  module _ {row : List ℤ} (filled : row ≡ levels_along s x y n) {l : Clamp} (is : l ≡ clamp_at b x y) where
    pub clamped_row : map (clamped l) row ≡ zoned_along s b x y n
    clamped_row = (λ t. map (clamped (is t)) (filled t)) ∙ sym clamped_along

    pub left_row : leaves_all l ≡ true → row ≡ zoned_along s b x y n
    left_row e = filled ∙ sym (plain_along (ap leaves_all (sym is) ∙ e))

-- a run through a whole row
pub run_filled : (s : List ℕ) (x y : ℕ) (row : List ℤ) {new : List ℤ} → new ≡ after_steps s x y (length row) row → new ≡ levels_along s x y (length row)
run_filled s x y row e = e ∙ run_laws.is_begun _ _ _ _ row (omega arith) ∙ run_laws.all _ _ _ row
