-- What the zones at a pixel do is the clamp that the code works out, for every level that a sheet may have. Assumes nothing.
use Prim.Native.Nat.{ℕ}
use mathlib.Core.Path.{◌≡◌}
use mathlib.Core.Bool.{true, and-eq-true_iff}
use mathlib.Core.List.{List}
use lib.IntN.{ℤ, pos, neg_ℤ}
use lib.Signed.{le_z, le_z_yes}
use Rattle.integers.specs.Within.{◌within◌}
use Rattle.integers.proofs.Order.{≤ℤ_trans}
use Rattle.integers.proofs.Bounds.{within_upper, within_lower}
use Rattle.sheet_zones.specs.Zones.{zones_at, limited}
use Rattle.sheet_zones.proofs.Limits.{not_below_lem, not_above_lem}
use Rattle.sheet_zones.proofs.Clamps as zones
use Rattle.sheet_zoning.specs.Clamps.{level_bound, clamp_at, clamped, leaves_all}
use Rattle.sheet_zoning.specs.declared.Clamp.{Clamp}

pub as_clamp : (b : List ℕ) (x y : ℕ) {v : ℤ} → v within level_bound → limited (zones_at b x y) v ≡ clamped (clamp_at b x y) v
unfolding clamp_at clamped
as_clamp b x y {v} h = zones.clamp (zones_at b x y) (neg_ℤ (pos level_bound)) v (pos level_bound) (within_lower h) (within_upper h)

pub left_alone : (l : Clamp) → leaves_all l ≡ true → {v : ℤ} → v within level_bound → clamped l v ≡ v
unfolding clamped leaves_all
left_alone l e {v} h = let (low, high) = (and-eq-true_iff (le_z l.least (neg_ℤ (pos level_bound))) (le_z (pos level_bound) l.greatest)).0 e in
    rw (not_below_lem l.least v (≤ℤ_trans (le_z_yes (rw low tt)) (within_lower h))) (not_above_lem l.greatest v (≤ℤ_trans (within_upper h) (le_z_yes (rw high tt))))
