-- Where filling is not refused, its steps can be made. Assumes nothing.
use Prim.Native.Nat.{ℕ}
use mathlib.Core.Path.{◌≡◌}
use mathlib.Core.List.{List}
use Rattle.sheet_layout.proofs.NodeRange.{slope_in_lem}
use Rattle.sheet_calls.proofs.WellFormed.{accepted_laws}
use Rattle.sheet_slopes.specs.Slopes.{slope_refusal}
use Rattle.sheet_slopes.specs.InPlace.{Fillable}
use Rattle.sheet_slopes.proofs.Conditions.{thirteen}
use Rattle.sheet_slopes.proofs.Chain.{slope_held}

pub fillable : (s : List ℕ) (t : ℕ) → slope_refusal s t ≡ 0 → Fillable s t
fillable s t e =
    let (a, soft, flat) = slope_held s t e in
    let w = accepted_laws.sound s a in
    let gentle = (thirteen s t).0 flat in
    record {
      whole = w.whole;
      few_columns = w.few_columns;
      few_rows = w.few_rows;
      rising_x = w.rising_x;
      rising_y = w.rising_y;
      stiffness = soft;
      slopes_x = λ i j h k. (slope_in_lem _).1 (gentle j k i h).0;
      slopes_y = λ i j h k. (slope_in_lem _).1 (gentle j k i h).1;
    }
