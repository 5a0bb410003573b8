-- A loop through a list of zones: a zone further on, in the order of the list. Assumes nothing.
use Rattle.std.proofs.Common.{ℕ, zero, suc, ◌+◌, ◌-◌, ◌≤◌, ◌<◌, ◌≡◌, refl, sym, ◌∙◌, subst, true, false, List, ℤ, arith, zero-add, add-one}
use Rattle.std.proofs.Math.Nat.{suc-add, add-suc, add-zero, sub-zero}
use Rattle.sheet_zones.specs.Zones.{Zone, zone_at, zone_count, zones_from, zones_of, holds, holding, zones_at, limited_by, limited}

module _ (b : List ℕ) where
  module _ (x y : ℕ) where
    -- those zones from zone k on that hold the pixel
    abbrev pub behind : ℕ → List Zone
    behind k = holding x y (zones_from b k (zone_count b - k))

    pub all_behind : behind 0 ≡ zones_at b x y
    unfolding zones_of
    all_behind = rw (sub-zero (zone_count b)) refl

    pub none_behind : (k : ℕ) → zone_count b ≤ k → (v : ℤ) → limited (behind k) v ≡ v
    unfolding zones_from holding limited
    none_behind k h v = let none : zone_count b - k ≡ 0 = omega arith in rw none refl

    -- what zone k, which is z, leaves of a level v, where it holds the pixel and where it does not
    module _ (k : ℕ) (more : k < zone_count b) {z : Zone} (at : z ≡ zone_at b k) where
      one_less : zone_count b - k ≡ suc (zone_count b - (k + 1))
      one_less = omega arith

      pub does_part : holds z x y ≡ true → (v w : ℤ) → w ≡ limited_by z v → limited (behind (k + 1)) w ≡ limited (behind k) v
      unfolding zones_from holding limited
      does_part h v w e = rw (e, one_less, ← at, h, add-one k) refl

      pub passes : holds z x y ≡ false → (v w : ℤ) → w ≡ v → limited (behind (k + 1)) w ≡ limited (behind k) v
      unfolding zones_from holding
      passes h v w e = rw (e, one_less, ← at, h, add-one k) refl

  -- zones that hold two pixels alike
  held_alike : (x x' y : ℕ) (k n : ℕ) → ((j : ℕ) → j < n → holds (zone_at b (k + j)) x' y ≡ holds (zone_at b (k + j)) x y)
      → holding x' y (zones_from b k n) ≡ holding x y (zones_from b k n)
  unfolding zones_from holding
  held_alike x x' y k zero h = refl
  held_alike x x' y k (suc n) h =
      let first : holds (zone_at b k) x' y ≡ holds (zone_at b k) x y = rw (← add-zero k) (h 0 (omega arith)) in
      let At : ℕ → Type 0 = λ i. holds (zone_at b i) x' y ≡ holds (zone_at b i) x y in
      rw (first, held_alike x x' y (suc k) n (λ j l. subst At (add-suc k j ∙ sym (suc-add k j)) (h (suc j) (omega (arith, l))))) refl

  pub same_zones : (x x' y : ℕ) → ((j : ℕ) → j < zone_count b → holds (zone_at b j) x' y ≡ holds (zone_at b j) x y) → zones_at b x' y ≡ zones_at b x y
  unfolding zones_of
  same_zones x x' y h = held_alike x x' y 0 (zone_count b) (λ j l. rw (zero-add j) (h j l))
