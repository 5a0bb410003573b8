-- How long the text of a number, and a refusal's line, are at most. Assumes nothing.
use Prim.Native.Nat.{ℕ, suc, ◌+◌, ◌^◌, ◌≤◌, ◌<◌}
use mathlib.Core.List.{[], ◌∷◌}
use native.Mathlib.Nat.{lt_of_lt_of_le}
use native.Mathlib.Omega.{arith}
use lib.Dec.{lit≤}
use lib.IntN.{ℤ, pos, negsuc, nat_abs}
use lib.ListN.{length, length-append}
use Rattle.program_text.specs.Text.{newline, natural, decimal, field, refused_word, refused_line}
use Rattle.program_text.proofs.Digits.{natural_spells}

module _ (k : ℕ) (some : 1 ≤ k) (enough : 10 ^ k ≤ 10 ^ 20) where
  natural_length : (n : ℕ) → n < 10 ^ k → length (natural n) ≤ k
  natural_length n h = (natural_spells n (lt_of_lt_of_le h enough)).few k some h

  -- a sign, and up to k digits
  decimal_length : (z : ℤ) → nat_abs z < 10 ^ k → length (decimal z) ≤ k + 1
  unfolding decimal
  decimal_length (pos n) h = omega (arith, natural_length n h)
  decimal_length (negsuc n) h = omega (arith, natural_length (suc n) h)

  pub field_length : (z : ℤ) (behind : ℕ) → nat_abs z < 10 ^ k → length (field z behind) ≤ k + 2
  unfolding field
  field_length z behind h = omega (arith, decimal_length z h, length-append (decimal z) (behind ∷ []))

-- "refused", a blank, up to ten digits and the end of the line
pub refused_length : (n : ℕ) → n < 2 ^ 32 → length (refused_line n) ≤ 20
unfolding refused_line
refused_length n h =
    let l = field_length 10 (lit≤ tt) (lit≤ tt) (pos n) newline (lt_of_lt_of_le h (lit≤ tt)) in omega (arith, l, length-append refused_word (field (pos n) newline))
