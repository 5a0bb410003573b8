-- What is proved of the text of a number: it says the number, in the one usual way; and examples. Assumes nothing.
use Rattle.std.specs.Prelude.{ℕ, suc, ◌+◌, ◌*◌, ◌-◌, ◌^◌, ◌≤◌, ◌<◌, ◌≡◌, List, [], ◌∷◌, length, get_or, drop, pos, negsuc}
use Rattle.program_text.specs.Text.{decimal, line, refused_line}

-- the number that digits say in base 10, read from the left; n is what those before them say
unfoldable pub value_from : ℕ → List ℕ → ℕ
value_from n [] = n
value_from n (c ∷ cs) = value_from (10 * n + (c - 48)) cs

-- cs is the decimal text of n
pub record Spells (n : ℕ) (cs : List ℕ) : Type 0 where
  -- read back, it gives n
  pub value : value_from 0 cs ≡ n
  -- each character is one of the digits 0 to 9
  pub digits : (i : ℕ) → i < length cs → (48 ≤ get_or cs i 0) × (get_or cs i 0 ≤ 57)
  -- the first is not the digit 0, but of n = 0
  pub first : 0 < n → 48 < get_or cs 0 0
  -- there is one at least; where n is below 10ᵏ, there are at most k
  pub some : 1 ≤ length cs
  pub few : (k : ℕ) → 1 ≤ k → n < 10 ^ k → length cs ≤ k

pub record TextLaws : Type 0 where
  pub spells : (n : ℕ) → n < 10 ^ 20 → Spells n (decimal (pos n))
  -- a minus sign, then the digits
  pub negative : (n : ℕ) → suc n < 10 ^ 20 → (get_or (decimal (negsuc n)) 0 0 ≡ 45) × Spells (suc n) (drop 1 (decimal (negsuc n)))
  -- 0, −7, the largest number of 64 bits, and the least signed one
  pub none : decimal (pos 0) ≡ 48 ∷ []
  pub minus_seven : decimal (negsuc 6) ≡ 45 ∷ 55 ∷ []
  pub largest : decimal (pos 18446744073709551615) ≡ 49 ∷ 56 ∷ 52 ∷ 52 ∷ 54 ∷ 55 ∷ 52 ∷ 52 ∷ 48 ∷ 55 ∷ 51 ∷ 55 ∷ 48 ∷ 57 ∷ 53 ∷ 53 ∷ 49 ∷ 54 ∷ 49 ∷ 53 ∷ []
  pub least : decimal (negsuc 9223372036854775807) ≡ 45 ∷ 57 ∷ 50 ∷ 50 ∷ 51 ∷ 51 ∷ 55 ∷ 50 ∷ 48 ∷ 51 ∷ 54 ∷ 56 ∷ 53 ∷ 52 ∷ 55 ∷ 55 ∷ 53 ∷ 56 ∷ 48 ∷ 56 ∷ []
  -- "1 0 32 -48 0" and "refused 5", each with the end of its line
  pub pixel : line (pos 1 ∷ pos 0 ∷ pos 32 ∷ negsuc 47 ∷ pos 0 ∷ []) ≡ 49 ∷ 32 ∷ 48 ∷ 32 ∷ 51 ∷ 50 ∷ 32 ∷ 45 ∷ 52 ∷ 56 ∷ 32 ∷ 48 ∷ 10 ∷ []
  pub refusal : refused_line 5 ≡ 114 ∷ 101 ∷ 102 ∷ 117 ∷ 115 ∷ 101 ∷ 100 ∷ 32 ∷ 53 ∷ 10 ∷ []
