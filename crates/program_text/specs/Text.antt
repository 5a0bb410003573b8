-- Numbers in decimal as ASCII text, and the two kinds of lines that the programs print (01, "Readings"). Assumes nothing.
use Rattle.std.specs.Prelude.{ℕ, zero, suc, ◌+◌, ◌/◌, ◌%◌, List, [], ◌∷◌, ◌++◌, cond, ltb, ℤ, pos, negsuc}

-- ---- characters

abbrev pub newline : ℕ
newline = 10

abbrev pub blank : ℕ
blank = 32

abbrev pub minus : ℕ
minus = 45

-- that of a digit below 10
abbrev pub digit : ℕ → ℕ
digit d = 48 + d

-- ---- numbers

-- n in decimal, without zeros in front; k digits at most
unfoldable pub spelled : ℕ → ℕ → List ℕ
spelled zero n = []
spelled (suc k) n = cond (ltb n 10) (digit n ∷ []) (spelled k (n / 10) ++ digit (n % 10) ∷ [])

-- 20 digits are enough for every number of 64 bits
unfoldable pub natural : ℕ → List ℕ
natural n = spelled 20 n

-- negsuc n is −1 − n
unfoldable pub decimal : ℤ → List ℕ
decimal (pos n) = natural n
decimal (negsuc n) = minus ∷ natural (suc n)

-- ---- lines

-- a number and the character behind it
unfoldable pub field : ℤ → ℕ → List ℕ
field z behind = decimal z ++ behind ∷ []

-- a line of numbers, decimal, one blank between
unfoldable pub line : List ℤ → List ℕ
line [] = newline ∷ []
line (z ∷ []) = field z newline
line (z ∷ w ∷ zs) = field z blank ++ line (w ∷ zs)

-- "refused" and a blank
abbrev pub refused_word : List ℕ
refused_word = 114 ∷ 101 ∷ 102 ∷ 117 ∷ 115 ∷ 101 ∷ 100 ∷ blank ∷ []

-- a refusal's line: "refused", a blank and its number
unfoldable pub refused_line : ℕ → List ℕ
refused_line n = refused_word ++ field (pos n) newline
