-- The zones of a list that hold a pixel, by the zones' indices: none where none holds it, and the last of them at the end. Assumes nothing.
use Prim.Native.Nat.{ℕ, zero, suc, ◌+◌, ◌*◌, ◌≤◌, ◌<◌}
use mathlib.Core.Path.{◌≡◌, ◌∙◌, ap}
use mathlib.Core.List.{List, [], ◌∷◌, ◌++◌}
use mathlib.Core.Bool.{Bool, true, false, cond}
use native.Mathlib.Decide.{ℕ_discrete}
use native.Mathlib.Omega.{arith}
use lib.ListN.{length}
use Rattle.sheet_zones.specs.Zones.{Zone, zone_at, zone_count, zones_from, zones_of, holds, holding, zones_at}
use Rattle.sheet_zones.specs.ZoneLaws.{Holds}
use Rattle.sheet_zones.proofs.Holding.{taken, passed}
use Rattle.sheet_zones.proofs.Holding as holding
use Rattle.sheet_zones.proofs.Conditions.{has_zone}

-- the list ends with z
abbrev EndsWith : List Zone → Zone → Type 0
EndsWith zs z = (before : List Zone) × (zs ≡ before ++ z ∷ [])

module _ (b : List ℕ) (x y : ℕ) where
  -- zone k holds the pixel
  abbrev Held : ℕ → Type 0
  Held k = Holds (zone_at b k) x y

  -- ---- of n zones from zone i on

  none_from : (i n : ℕ) → ((k : ℕ) → i ≤ k → k < i + n → ¬ Held k) → holding x y (zones_from b i n) ≡ []
  unfolding zones_from
  none_from i zero h = holding.none x y
  none_from i (suc n) h = passed x y (zone_at b i) _ (h i (omega arith) (omega arith)) ∙ none_from (suc i) n (λ k l m. h k (omega arith) (omega arith))

  -- a zone in front leaves the end as it is, whether it holds the pixel or not
  behind : (z : Zone) (zs : List Zone) {last : Zone} → EndsWith (holding x y zs) last → EndsWith (holding x y (z ∷ zs)) last
  unfolding holding
  behind z zs {last} (before, e) = by (holds z x y)
    where
      by : (t : Bool) → EndsWith (cond t (z ∷ holding x y zs) (holding x y zs)) last
      by true = (z ∷ before, ap (λ l. z ∷ l) e)
      by false = (before, e)

  last_from : (i n k : ℕ) → i ≤ k → k < i + n → Held k → ((j : ℕ) → k < j → j < i + n → ¬ Held j) → EndsWith (holding x y (zones_from b i n)) (zone_at b k)
  unfolding zones_from
  last_from i zero k l m h after = absurd (omega arith)
  last_from i (suc n) k l m h after = elim (ℕ_discrete i k) [
    | yes e ↦ ([], rw e (taken x y (zone_at b k) _ h ∙ ap (λ l. zone_at b k ∷ l) (none_from (suc k) n (λ j p q. after j (omega arith) (omega arith)))))
    | no d ↦ behind (zone_at b i) _ (last_from (suc i) n k (omega arith) (omega arith) h (λ j p q. after j p (omega arith)))
  ]

  -- ---- of all

  pub none_held : ((k : ℕ) → 12 * k + 12 ≤ length b → ¬ Held k) → zones_at b x y ≡ []
  unfolding zones_of
  none_held h = none_from 0 (zone_count b) (λ k _ l. h k ((has_zone b k).0 (omega arith)))

  pub last_held : (k : ℕ) → 12 * k + 12 ≤ length b → Held k → ((j : ℕ) → 12 * j + 12 ≤ length b → Held j → j ≤ k) → EndsWith (zones_at b x y) (zone_at b k)
  unfolding zones_of
  last_held k l h last =
      let here = (has_zone b k).1 l in
      last_from 0 (zone_count b) k (omega arith) (omega arith) h (λ j p q g. omega (arith, last j ((has_zone b j).0 (omega arith)) g))
