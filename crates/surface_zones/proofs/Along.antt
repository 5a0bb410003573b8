-- The zoned levels along a row: how many they are, which pixel's each is, and those of a run in two parts. Assumes nothing.
use Prim.Native.Nat.{ℕ, ◌+◌, ◌<◌}
use mathlib.Core.Path.{◌≡◌, refl}
use mathlib.Core.List.{List, ◌++◌}
use lib.IntN.{ℤ}
use lib.ListN.{length, get_or}
use Rattle.integers.proofs.InOrder.{size_of, place_of, parts_of}
use Rattle.surface_zones.specs.Zoned.{zoned_level, zoned_along}

module _ (s b : List ℕ) (x y : ℕ) where
  pub along_length : (count : ℕ) → length (zoned_along s b x y count) ≡ count
  unfolding zoned_along
  along_length = size_of (λ i. zoned_level s b i y) (λ i n. zoned_along s b i y n) (λ i. refl) (λ i n. refl) x

  pub along_at : (count k : ℕ) → k < count → (z : ℤ) → get_or (zoned_along s b x y count) k z ≡ zoned_level s b (x + k) y
  unfolding zoned_along
  along_at = place_of (λ i. zoned_level s b i y) (λ i n. zoned_along s b i y n) (λ i. refl) (λ i n. refl) x

  pub along_append : (n m : ℕ) → zoned_along s b x y (n + m) ≡ zoned_along s b x y n ++ zoned_along s b (x + n) y m
  unfolding zoned_along
  along_append = parts_of (λ i. zoned_level s b i y) (λ i n. zoned_along s b i y n) (λ i. refl) (λ i n. refl) x
