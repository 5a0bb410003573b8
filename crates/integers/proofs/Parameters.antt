-- An array of numbers that is a parameter: each element is stored as it is. Assumes nothing.
use mathlib.Core.Path.{◌≡◌}
use mathlib.Core.List.{List, [], ◌∷◌}
use Prim.Native.Nat.{ℕ, zero, suc, ◌^◌, ◌<◌}
use lib.Dec.{lit<}
use lib.IntN.{ℤ, pos}
use lib.ListN.{get_or}
use lib.Signed.{mag}
use mir.Syntax.{w64}
use mir.Val.{Val, to_z, of_z, hbits}
use denote.Shadow.{shadow}
use denote.Laws.{Is}
use denote.Array.{Array, each}
use denote.Signed.{SInt}
use Rattle.integers.proofs.Operand.{unchanged}

fits : (xs : List ℤ) (us : List Val) → shadow (each ℤ (SInt w64).own_val xs us) → (k : ℕ) → mag (get_or xs k (pos 0)) < 2 ^ hbits w64
fits [] us s k = lit< tt
fits (x ∷ xs) [] s k = absurd s
fits (x ∷ xs) (u ∷ us) s zero = s.0.1
fits (x ∷ xs) (u ∷ us) s (suc k) = fits xs us s.1 k

-- an element that is stored as it is: `kept s.args.xs s.good.0 k`
pub kept : (xs : List ℤ) {n : ℕ} {vs : List Val} → Is (Array (SInt w64) n) xs vs → (k : ℕ) → to_z w64 (of_z w64 (get_or xs k (pos 0))) ≡ get_or xs k (pos 0)
kept xs good k = unchanged w64 {z = get_or xs k (pos 0)} (fits xs good.0 good.1.1 k)
