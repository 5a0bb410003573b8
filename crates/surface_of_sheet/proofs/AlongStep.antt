-- The highest cell along an axis, one cell further: what holds of the last cell where it starts in time, and of the one before where not, holds of it.
-- Assumes nothing.
use Prim.Native.Nat.{ℕ, suc, ◌≤◌, ◌<◌}
use lib.Dec.{leb, leb→le, nleb→lt}
use Rattle.integers.proofs.Order.{cond_ind}
use Rattle.surface_of_sheet.specs.Place.{highest_along}

module _ (line : ℕ → ℕ) (position : ℕ) where
  -- the last cell where it starts at or before the position, and one of the others where it does not
  pub along_step : (k : ℕ) (Q : ℕ → Type 0) → (line (suc k) ≤ position → Q (suc k)) → (position < line (suc k) → Q (highest_along line k position)) →
      Q (highest_along line (suc k) position)
  unfolding highest_along
  along_step k Q here before =
      cond_ind (leb (line (suc k)) position) (suc k) (highest_along line k position) Q
      (λ t. here (leb→le _ _ t))
      (λ t. before (nleb→lt _ _ t))
