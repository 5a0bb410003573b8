-- The list of bends: three numbers for each place that is listed, so at most 24. Assumes nothing.
use Prim.Native.Nat.{ℕ, zero, suc, ◌+◌, ◌*◌, ◌≤◌, ◌<◌}
use mathlib.Core.Path.{◌≡◌, refl, ◌∙◌}
use mathlib.Core.List.{List, [], ◌∷◌, flat_map}
use native.Mathlib.Omega.{arith}
use lib.IntN.{ℤ, pos}
use lib.ListN.{length, get_or, get_or-append}
use lib.Seq.{get_or-append-add}
use Rattle.element_readings.specs.Reading.{bends_of}
use Rattle.sheet_calls.specs.Refusals.{Accepted}
use Rattle.surface_of_sheet.specs.Place.{Place}
use Rattle.surface_bends.specs.Bends.{touching_places, nowhere, entry_place, bends_at, bends}
use Rattle.surface_bends.proofs.Counting.{most}

module _ (s : List ℕ) where
  three_each : (l : List Place) → length (flat_map (bends_at s) l) ≡ 3 * length l
  unfolding flat_map bends_at bends_of
  three_each [] = refl
  three_each (p ∷ l) = let rest = three_each l in omega arith

  -- number m of place k
  at_place : (l : List Place) (k m n : ℕ) (d : Place) (z : ℤ) → k < length l → m < 3 → 3 * k + m ≡ n →
      get_or (flat_map (bends_at s) l) n z ≡ get_or (bends_at s (get_or l k d)) m z
  unfolding flat_map bends_at bends_of
  at_place [] k m n d z h b e = absurd (omega arith)
  at_place (p ∷ l) zero m n d z h b e = let same : n ≡ m = omega arith in rw same (get_or-append (bends_at s p) (flat_map (bends_at s) l) z m b)
  at_place (p ∷ l) (suc k) m n d z h b e =
      let same : n ≡ 3 + (3 * k + m) = omega arith in
      rw same (get_or-append-add (bends_at s p) (flat_map (bends_at s) l) (3 * k + m) z ∙ at_place l k m (3 * k + m) d z (omega (arith, h)) b refl)

module _ (s : List ℕ) (x y : ℕ) where
  pub size : length (bends s x y) ≡ 3 * length (touching_places s x y)
  unfolding bends
  size = three_each s (touching_places s x y)

  pub few : Accepted s → length (bends s x y) ≤ 24
  few accepted = omega (arith, size, most s x y accepted)

  pub number_at : (k m n : ℕ) → k < length (touching_places s x y) → m < 3 → 3 * k + m ≡ n →
      get_or (bends s x y) n (pos 0) ≡ get_or (bends_at s (entry_place s x y k)) m (pos 0)
  unfolding bends
  number_at k m n h b e = at_place s (touching_places s x y) k m n (nowhere s x y) (pos 0) h b e
