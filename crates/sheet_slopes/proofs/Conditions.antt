-- The numbers that filling slopes looks at, and what the two that are its own say. Assumes nothing.
use Prim.Native.Nat.{ℕ, ◌≤◌, ◌<◌}
use mathlib.Core.Path.{◌≡◌, refl}
use mathlib.Core.Logic.{◌↔◌}
use mathlib.Core.List.{List, [], ◌∷◌, map}
use mathlib.Core.Bool.{false}
use Rattle.integers.specs.Within.{◌within◌}
use Rattle.sheet_layout.specs.Format.{columns, rows}
use Rattle.sheet_layout.proofs.Meaning.{ltb_fails, not_fails, or_fails}
use Rattle.sheet_layout.proofs.NodeRange.{slope_in_lem}
use Rattle.sheet_layout.proofs.Some.{some_fails}
use Rattle.sheet_calls.specs.Refusals.{sheet_rules}
use Rattle.sheet_slopes.specs.Slopes.{filled_x, filled_y, too_stiff, too_steep, some_too_steep, slope_rules}

pub numbers : map (λ r. r.number) slope_rules ≡ 1 ∷ 2 ∷ 3 ∷ 4 ∷ 5 ∷ 6 ∷ 12 ∷ 13 ∷ []
unfolding slope_rules sheet_rules
numbers = refl

pub twelve : (t : ℕ) → (too_stiff t ≡ false) ↔ (t ≤ 64)
unfolding too_stiff
twelve t = ltb_fails 64 t

pub thirteen : (s : List ℕ) (t : ℕ) → (some_too_steep s t ≡ false)
    ↔ ((j : ℕ) → j < rows s → (i : ℕ) → i < columns s → (filled_x s t i j within 4095) × (filled_y s t i j within 4095))
unfolding some_too_steep too_steep
thirteen s t = some_fails (rows s) (λ j. some_fails (columns s)
    (λ i. or_fails (not_fails (slope_in_lem (filled_x s t i j))) (not_fails (slope_in_lem (filled_y s t i j)))))
