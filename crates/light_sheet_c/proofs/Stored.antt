-- Values that are stored one by one, from the first slot on, leave what `over` says, and what that is slot by slot. Assumes nothing.
use Prim.Native.Nat.{ℕ, zero, suc, ◌≤◌}
use mathlib.Core.Path.{◌≡◌, refl, ◌∙◌, ap}
use mathlib.Core.List.{List, [], ◌∷◌}
use native.Mathlib.Nat.{le_of_suc-le-suc, not-suc-le-zero}
use lib.ListN.{length, get_or, set, take}
use lib.Seq.{sets}
use Rattle.light_sheet_c.specs.Values.{over}

module _ {A : Type 0} where
  nowhere : (i : ℕ) (values : List A) → sets [] i values ≡ []
  nowhere i [] = refl
  nowhere i (v ∷ values) = nowhere (suc i) values

  behind : (a : A) (array : List A) (i : ℕ) (values : List A) → sets (a ∷ array) (suc i) values ≡ a ∷ sets array i values
  behind a array i [] = refl
  behind a array i (v ∷ values) = behind a (set array i v) (suc i) values

  pub stored : (values array : List A) → sets array 0 values ≡ over values array
  unfolding over
  stored [] array = refl
  stored (v ∷ values) [] = nowhere 1 values
  stored (v ∷ values) (a ∷ array) = behind v array 0 values ∙ ap (λ rest. v ∷ rest) (stored values array)

  pub over_size : (values array : List A) → length (over values array) ≡ length array
  unfolding over
  over_size [] array = refl
  over_size (v ∷ values) [] = refl
  over_size (v ∷ values) (a ∷ array) = ap suc (over_size values array)

  pub over_first : (values array : List A) → length values ≤ length array → take (length values) (over values array) ≡ values
  unfolding over
  over_first [] array fits = refl
  over_first (v ∷ values) [] fits = absurd (not-suc-le-zero fits)
  over_first (v ∷ values) (a ∷ array) fits = ap (λ rest. v ∷ rest) (over_first values array (le_of_suc-le-suc fits))

  pub over_behind : (values array : List A) (k : ℕ) → length values ≤ k → (d : A) → get_or (over values array) k d ≡ get_or array k d
  unfolding over
  over_behind [] array k past d = refl
  over_behind (v ∷ values) [] k past d = refl
  over_behind (v ∷ values) (a ∷ array) zero past d = absurd (not-suc-le-zero past)
  over_behind (v ∷ values) (a ∷ array) (suc k) past d = over_behind values array k (le_of_suc-le-suc past) d
