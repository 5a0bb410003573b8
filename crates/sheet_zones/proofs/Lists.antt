-- The zones of a list of bytes: their numbers, how many there are, and each in its place. Assumes nothing.
use Prim.Native.Nat.{ℕ, zero, suc, ◌+◌, ◌*◌, ◌<◌}
use mathlib.Core.Path.{◌≡◌, refl, ◌∙◌, ap}
use mathlib.Core.List.{List}
use native.Mathlib.Nat.{add_assoc, div-eq_of_eq-mul_right}
use native.Mathlib.Omega.{arith}
use lib.Dec.{lit<}
use lib.ListN.{length, get_or}
use Rattle.integers.proofs.InOrder.{size_of, place_of}
use Rattle.sheet_words.specs.Word.{byte_at, signed}
use Rattle.sheet_calls.specs.Rules.{Each}
use Rattle.sheet_zones.specs.Zones.{Zone, zone_in, zone_at, zone_count, zones_from, zones_of}

pub numbers : (b : List ℕ) (k at : ℕ) → at ≡ 12 * k → let z = zone_at b k in
    (z.left ≡ byte_at b at + byte_at b (at + 1) * 256) × (z.top ≡ byte_at b (at + 2) + byte_at b (at + 3) * 256)
    × (z.right ≡ byte_at b (at + 4) + byte_at b (at + 5) * 256) × (z.bottom ≡ byte_at b (at + 6) + byte_at b (at + 7) * 256)
    × (z.floor ≡ signed (byte_at b (at + 8) + byte_at b (at + 9) * 256)) × (z.ceiling ≡ signed (byte_at b (at + 10) + byte_at b (at + 11) * 256))
unfolding zone_in
numbers b k at e = rw e (simp add_assoc (refl, refl, refl, refl, refl, refl))

-- ---- n zones from zone k on

size_from : (b : List ℕ) (k n : ℕ) → length (zones_from b k n) ≡ n
unfolding zones_from
size_from b = size_of (zone_at b) (zones_from b) (λ k. refl) (λ k n. refl)

at_from : (b : List ℕ) (k n i : ℕ) → i < n → (z : Zone) → get_or (zones_from b k n) i z ≡ zone_at b (k + i)
unfolding zones_from
at_from b = place_of (zone_at b) (zones_from b) (λ k. refl) (λ k n. refl)

pub each_from : (P : Zone → Type 0) (b : List ℕ) (k n : ℕ) → ((i : ℕ) → i < k + n → P (zone_at b i)) → Each P (zones_from b k n)
unfolding zones_from
each_from P b k zero h = tt
each_from P b k (suc n) h = (h k (omega arith), each_from P b (suc k) n (λ i l. h i (omega arith)))

-- ---- all of them

counted : (b : List ℕ) (n : ℕ) → length b ≡ 12 * n → zone_count b ≡ n
counted b n e = div-eq_of_eq-mul_right (lit< tt) e

pub many : (b : List ℕ) (n : ℕ) → length b ≡ 12 * n → length (zones_of b) ≡ n
unfolding zones_of
many b n e = size_from b 0 (zone_count b) ∙ counted b n e

pub each : (b : List ℕ) (n k : ℕ) → length b ≡ 12 * n → k < n → (z : Zone) → get_or (zones_of b) k z ≡ zone_at b k
unfolding zones_of
each b n k e h z = let start : 0 + k ≡ k = omega arith in rw (counted b n e) (at_from b 0 n k h z ∙ ap (zone_at b) start)
