-- What 18 and 19 say, and what a list that neither refuses is: zones, each of them valid. Assumes nothing.
use Prim.Native.Nat.{ℕ, suc, ◌+◌, ◌*◌, ◌/◌, ◌%◌, ◌≤◌, ◌<◌}
use mathlib.Core.Path.{◌≡◌, refl}
use mathlib.Core.Logic.Iff
use mathlib.Core.Logic.{◌↔◌}
use mathlib.Core.List.{List, [], ◌∷◌, map}
use mathlib.Core.Bool.{true, false}
use native.Mathlib.Nat.{div-add-mod, mul-mod_right, le-div_iff_mul-le}
use native.Mathlib.Omega.{arith}
use lib.Dec.{lit<}
use lib.IntN.{ℤ}
use lib.ListN.{length}
use Rattle.integers.specs.Within.{◌within◌}
use Rattle.sheet_layout.proofs.Meaning.{ltb_fails, lt_z_fails, not_fails, or_fails, eqb_holds}
use Rattle.sheet_layout.proofs.NodeRange.{within_holds}
use Rattle.sheet_layout.proofs.Some.{some_fails}
use Rattle.sheet_calls.specs.Rules.{Each}
use Rattle.sheet_calls.proofs.Rules.{rule_laws, nonzero, numbered}
use Rattle.sheet_zones.specs.Zones.{Zone, zone_at, zone_count, zones_of, zones_at, other_zones_length, limit_in, wrong_zone, wrong_zones, zone_rules, zones_refusal}
use Rattle.sheet_zones.specs.ZoneLaws.{ValidZone, OfZones, EachValid}
use Rattle.sheet_zones.proofs.Lists.{each_from}
use Rattle.sheet_zones.proofs.Holding.{each_holding}

-- ---- 18

pub eighteen : (b : List ℕ) → (other_zones_length b ≡ false) ↔ OfZones b
unfolding other_zones_length
eighteen b = Iff.trans (or_fails (not_fails (eqb_holds (length b % 12) 0)) (ltb_fails 192 (length b))) (whole, parts)
  where
    whole : (length b % 12 ≡ 0) × (length b ≤ 192) → OfZones b
    whole h = let d = div-add-mod (length b) 12 in record { count = length b / 12; size = omega (arith, h.0); few = omega (arith, h.1) }

    parts : OfZones b → (length b % 12 ≡ 0) × (length b ≤ 192)
    parts h = (rw h.size (mul-mod_right 12 h.count), omega arith)

-- ---- 19

limit_in_lem : (z : ℤ) → (limit_in z ≡ true) ↔ (z within 4095)
unfolding limit_in
limit_in_lem z = within_holds z 4095

valid_zone : (z : Zone) → (wrong_zone z ≡ false) ↔ ValidZone z
unfolding wrong_zone
valid_zone z = Iff.trans
    (or_fails (or_fails (or_fails (or_fails (ltb_fails z.right z.left) (ltb_fails z.bottom z.top)) (lt_z_fails z.ceiling z.floor))
    (not_fails (limit_in_lem z.floor))) (not_fails (limit_in_lem z.ceiling))) (
      λ h. let ((((a, d), l), f), c) = h in record { across = a; down = d; limits = l; floor = f; ceiling = c },
      λ r. ((((r.across, r.down), r.limits), r.floor), r.ceiling),
    )

-- the list has a zone k
pub has_zone : (b : List ℕ) (k : ℕ) → (k < zone_count b) ↔ (12 * k + 12 ≤ length b)
has_zone b k = let h = le-div_iff_mul-le {k = 12} {x = suc k} {y = length b} (lit< tt) in (λ l. omega (arith, h.0 l), λ l. h.1 (omega arith))

pub nineteen : (b : List ℕ) → (wrong_zones b ≡ false) ↔ EachValid b
unfolding wrong_zones
nineteen b = Iff.trans (some_fails (zone_count b) (λ k. valid_zone (zone_at b k))) (λ h k l. h k ((has_zone b k).1 l), λ h k l. h k ((has_zone b k).0 l))

-- ---- a list that is not refused

pub order : map (λ r. r.number) (zone_rules (λ (b : List ℕ). b)) ≡ 18 ∷ 19 ∷ []
unfolding zone_rules
order = refl

pub unrefused : (b : List ℕ) → (zones_refusal b ≡ 0) ↔ (OfZones b × EachValid b)
unfolding zones_refusal zone_rules nonzero
unrefused b = (
  λ e. let (l, (z, _)) = rule_laws.zero_only (zone_rules (λ b. b)) b (numbered (zone_rules (λ b. b)) tt) e in ((eighteen b).0 l, (nineteen b).0 z),
  λ h. rule_laws.zero (zone_rules (λ b. b)) b ((eighteen b).1 h.0, ((nineteen b).1 h.1, tt)),
)

pub zones_valid : (b : List ℕ) → zones_refusal b ≡ 0 → Each ValidZone (zones_of b)
unfolding zones_of
zones_valid b e = each_from ValidZone b 0 (zone_count b) (λ k l. ((unrefused b).0 e).1 k ((has_zone b k).0 (omega arith)))

pub held_valid : (b : List ℕ) (x y : ℕ) → zones_refusal b ≡ 0 → Each ValidZone (zones_at b x y)
held_valid b x y e = each_holding ValidZone x y (zones_of b) (zones_valid b e)
