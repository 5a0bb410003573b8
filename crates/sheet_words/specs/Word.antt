-- Numbers of 16 bits in a list of bytes, the low byte first, signed ones in two's complement; and what is proved of them. A byte past the end of
-- the list reads as 0. Assumes nothing.
use Rattle.std.specs.Prelude.{ℕ, ◌+◌, ◌*◌, ◌-◌, ◌/◌, ◌%◌, ◌≤◌, ◌<◌, ◌≡◌, List, [], ◌∷◌, ◌++◌, cond, length, get_or, take, drop, ltb, ℤ, pos, negsuc, ◌+ℤ◌, ◌≤ℤ◌}

-- ---- reading

-- the byte at index i
abbrev pub byte_at : List ℕ → ℕ → ℕ
byte_at s i = get_or s i 0

-- the unsigned number in the two bytes at index i
abbrev pub word_at : List ℕ → ℕ → ℕ
word_at s i = byte_at s i + byte_at s (i + 1) * 256

-- the signed number that has these 16 bits: those from 32,768 on stand for −32,768 and up
unfoldable pub signed : ℕ → ℤ
signed w = cond (ltb w 32768) (pos w) (negsuc (65535 - w))

-- ---- writing

-- the 16 bits of a signed number; negsuc n is −1 − n
unfoldable pub bits_of : ℤ → ℕ
bits_of (pos n) = n
bits_of (negsuc n) = 65535 - n

-- the two bytes of a number of 16 bits
unfoldable pub bytes_of : ℕ → List ℕ
bytes_of w = (w % 256) ∷ (w / 256) ∷ []

-- s with other bytes from index i on, as many as there are in b
abbrev pub replaced : List ℕ → ℕ → List ℕ → List ℕ
replaced s i b = take i s ++ b ++ drop (i + length b) s

-- ---- what is proved

-- every element of s is a byte
unfoldable pub Bytes : List ℕ → Type 0
Bytes s = (i : ℕ) → byte_at s i < 256

-- signed numbers are in two's complement; reading and writing are inverse
pub record WordLaws : Type 0 where
  pub natural : (w : ℕ) → w < 32768 → signed w ≡ pos w
  pub negative : (w : ℕ) → 32768 ≤ w → w < 65536 → signed w +ℤ pos 65536 ≡ pos w
  pub signed_bits : (z : ℤ) → negsuc 32767 ≤ℤ z → z ≤ℤ pos 32767 → signed (bits_of z) ≡ z
  pub bits_signed : (w : ℕ) → w < 65536 → bits_of (signed w) ≡ w
  pub word_bytes : (w : ℕ) → word_at (bytes_of w) 0 ≡ w
  pub bytes_word : (s : List ℕ) (i : ℕ) → Bytes s → i + 2 ≤ length s → bytes_of (word_at s i) ≡ take 2 (drop i s)
