-- A sheet with a column byte and a row byte behind it, taken apart and put together again. Assumes nothing.
use Prim.Native.Nat.{ℕ, suc, ◌+◌, ◌-◌, ◌≤◌}
use mathlib.Core.Path.{◌≡◌, sym, ◌∙◌, ap}
use mathlib.Core.List.{List, [], ◌∷◌, ◌++◌}
use native.Mathlib.Omega.{arith}
use lib.ListN.{length, drop, length-append, take-append-drop, drop_of_length-le}
use lib.Seq.{drop-cons, get_or-append-add, take_at, get_or_at}
use Rattle.sheet_words.specs.Word.{byte_at}
use Rattle.sheet_reach.specs.Reach.{sheet_in, column_in, row_in}

module _ (s : List ℕ) (i j : ℕ) where
  size : length (s ++ i ∷ j ∷ []) ≡ length s + 2
  size = length-append s (i ∷ j ∷ [])

  pub parts : let input = s ++ i ∷ j ∷ [] in (sheet_in input ≡ s) × (column_in input ≡ i) × (row_in input ≡ j)
  parts =
      let end : length s ≡ length (s ++ i ∷ j ∷ []) - 2 = omega (arith, size) in
      let last : length (s ++ i ∷ j ∷ []) - 1 ≡ length s + 1 = omega (arith, size) in
      (take_at s _ _ end, get_or_at s i _ 0 _ end, ap (byte_at (s ++ i ∷ j ∷ [])) last ∙ get_or-append-add s (i ∷ j ∷ []) 1 0)

pub together : (input : List ℕ) → 2 ≤ length input → sheet_in input ++ column_in input ∷ row_in input ∷ [] ≡ input
together input h = ap (λ t. sheet_in input ++ t) (sym (drop-cons input n 0 (omega arith) ∙ ap (λ t. column_in input ∷ t) last)) ∙ take-append-drop n input
  where
    n : ℕ
    n = length input - 2

    last : drop (suc n) input ≡ row_in input ∷ []
    last =
        let next : suc n ≡ length input - 1 = omega arith in
        let none = drop_of_length-le input {i = suc (length input - 1)} (omega arith) in
        rw next (drop-cons input (length input - 1) 0 (omega arith) ∙ ap (λ t. row_in input ∷ t) none)
