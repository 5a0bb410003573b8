-- `light_sheet_demands::screen_zones`: 02's #106 holds. Assumes nothing.
use mathlib.Core.Path.{refl}
use Rattle.light_sheet_demands.proofs.Zones.{screen_zones}
use Rattle.light_sheet_demands.proofs.screen_zones.Goals as goal

pub returns : goal.returns
returns c = (refl, screen_zones)
