-- Along an axis: what the slopes of a sheet are there, and what is known of its lines where the sheet is accepted. Assumes nothing.
use Rattle.std.proofs.Common.{◌≡◌, ℕ, ◌*◌, ◌≤◌, List, length, pos, nat_abs, ◌*ℤ◌, refl}
use Rattle.integers.specs.Round.{round}
use Rattle.sheet_layout.specs.declared.axis.Axis.{Axis}
use Rattle.sheet_layout.specs.declared.axis.Axis.TheVariants
use Rattle.sheet_layout.specs.Axis.{lines_of, line_of}
use Rattle.sheet_layout.specs.Format.{grains_per_step, stated_size}
use Rattle.sheet_calls.specs.Refusals.{Accepted}
use Rattle.sheet_calls.specs.WellFormed.{Rising}
use Rattle.sheet_calls.proofs.WellFormed.{accepted_laws}
use Rattle.sheet_slopes.specs.Slopes.{rise, distance, slope_along, filled_x, filled_y}
use Rattle.sheet_steepness.specs.Along.{height_along, filled_along}

pub slope_is : (a : Axis) (s : List ℕ) (t k l : ℕ)
    → round (pos t *ℤ rise (lines_of a s) (height_along a s l) k) (nat_abs grains_per_step * distance (lines_of a s) (line_of a s) k) ≡ filled_along a s t k l
unfolding slope_along filled_x filled_y
slope_is TheVariants.X s t k l = refl
slope_is TheVariants.Y s t k l = refl

pub record Lines (a : Axis) (s : List ℕ) : Type 0 where
  pub whole : length s ≡ stated_size s
  pub rising : Rising (line_of a s) (lines_of a s)
  pub few : 2 ≤ lines_of a s

pub accepted_lines : (a : Axis) {s : List ℕ} → Accepted s → Lines a s
accepted_lines TheVariants.X h = let w = accepted_laws.sound _ h in record { whole = w.whole; rising = w.rising_x; few = w.few_columns }
accepted_lines TheVariants.Y h = let w = accepted_laws.sound _ h in record { whole = w.whole; rising = w.rising_y; few = w.few_rows }
