-- From one offset to the next, along a row: the differences of the cubic, from which its values follow by additions. Assumes nothing.
use Rattle.std.specs.Prelude.{◌≡◌, List, [], ◌∷◌, ℕ, ◌+◌, ◌^◌, ℤ, pos, ◌+ℤ◌, ◌-ℤ◌, get_or}
use Rattle.integers.specs.Within.{◌within◌}
use Rattle.element_row_cubic.specs.Row.{at_offset}

-- what a function rises by, from an offset to the next
unfoldable pub rise : (ℕ → ℤ) → ℕ → ℤ
rise f a = f (a + 1) -ℤ f a

-- the value at an offset, what it rises by there, what that rises by, and what that does in turn
unfoldable pub differences : List ℤ → ℕ → List ℤ
differences p a = let f = at_offset p in f a ∷ rise f a ∷ rise (rise f) a ∷ rise (rise (rise f)) a ∷ []

-- those of the next offset: each is the one before and what that rises by
unfoldable pub stepped : List ℤ → List ℤ
stepped z =
    (get_or z 0 (pos 0) +ℤ get_or z 1 (pos 0)) ∷ (get_or z 1 (pos 0) +ℤ get_or z 2 (pos 0)) ∷ (get_or z 2 (pos 0) +ℤ get_or z 3 (pos 0)) ∷ get_or z 3 (pos 0) ∷ []

-- the first of the differences is the value, and a step leads to the differences of the next offset, so additions alone give the values from an offset on
pub record DifferenceLaws : Type 0 where
  pub values : (p : List ℤ) (a : ℕ) → get_or (differences p a) 0 (pos 0) ≡ at_offset p a
  pub steps : (p : List ℤ) (a : ℕ) → stepped (differences p a) ≡ differences p (a + 1)

-- the sums stay within 64 bits
pub record SumsFit (z : List ℤ) : Type 0 where
  pub value : get_or z 0 (pos 0) within (2 ^ 62)
  pub first : get_or z 1 (pos 0) within (2 ^ 60)
  pub second : get_or z 2 (pos 0) within (2 ^ 60)
  pub third : get_or z 3 (pos 0) within (2 ^ 60)
