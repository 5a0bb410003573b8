-- What a call that fills slopes leaves of heights and lines, by its record: all of them as they were, refused or not. Assumes nothing.
use Prim.Native.Nat.{ℕ}
use mathlib.Core.List.{List}
use native.Mathlib.Decide.{ℕ_discrete}
use Rattle.sheet_slopes.specs.Slopes.{SameHeights, slope_refusal}
use Rattle.sheet_slopes.proofs.Same.{same_self}
use Rattle.sheet_slopes.proofs.Laws.{slope_laws}
use Rattle.light_sheet_demands.specs.CallRecords.{FillSlopes}

pub kept : {s t : List ℕ} {k n : ℕ} → FillSlopes s k n t → SameHeights s t
kept {s} {k = k} c = rw c.sheet (elim (ℕ_discrete (slope_refusal s k) 0) [
  | yes e ↦ (slope_laws.filled s k e).same
  | no h ↦ rw (slope_laws.refused s k h) (same_self s)
])
