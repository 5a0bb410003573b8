-- What the loop of `sheet_zoning::clamp_at` keeps. Assumes nothing.
use Rattle.std.proofs.Common.{◌≡◌, pos, neg_ℤ}
use Rattle.sheet_zones.specs.Zones.{zones_at, limited}
use Rattle.sheet_zoning.specs.Clamps.{level_bound}
use Rattle.sheet_zoning.proofs.Turns.{behind}
use Rattle.sheet_zoning.proofs.clamp_at.Given as goal

-- what the zones from k on make of the clamp's ends is what all make of −2²⁰ and of 2²⁰
abbrev pub invariant-loop-k : goal.invariant-loop-k
invariant-loop-k l =
    (limited (behind l.zones l.x l.y l.k) l.least ≡ limited (zones_at l.zones l.x l.y) (neg_ℤ (pos level_bound)))
    × (limited (behind l.zones l.x l.y l.k) l.greatest ≡ limited (zones_at l.zones l.x l.y) (pos level_bound))
