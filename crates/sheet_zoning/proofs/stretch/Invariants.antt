-- What the loop of `sheet_zoning::stretch` keeps. Assumes nothing.
use Rattle.std.proofs.Common.{ℕ, ◌≤◌, ◌<◌}
use Rattle.sheet_zones.specs.Zones.{zone_at}
use Rattle.sheet_zoning.specs.Clamps.{Alike}
use Rattle.sheet_zoning.proofs.stretch.Given as goal

-- the zones that have been asked hold the pixels alike
abbrev pub invariant-loop-k : goal.invariant-loop-k
invariant-loop-k l = (0 < l.size) × (l.size ≤ l.most) × ((j : ℕ) → j < l.k → Alike (zone_at l.zones j) l.x l.y l.size)
