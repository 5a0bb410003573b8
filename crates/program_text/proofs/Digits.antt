-- The digits of a number: they are the library's, and its decimal text. Assumes nothing.
use Rattle.std.proofs.Common.{ℕ, ℤ, zero, suc, pos, negsuc, ◌+◌, ◌*◌, ◌-◌, ◌/◌, ◌%◌, ◌^◌, ◌≤◌, ◌<◌, ◌≡◌, List, [], ◌∷◌, ◌++◌, length, get_or, refl, ◌∙◌, ap, inl, inr, lit≤, w64, to_z, of_z, FitsSigned, arith, length-append}
use Rattle.std.specs.Fmt as Fmt
use Rattle.std.proofs.lemmas.Bool.{cases_lt}
use Rattle.std.proofs.lemmas.Fmt.{decimal_by_steps_wide, decimal_from_appends_wide, length-decimal-le_wide}
use Rattle.std.proofs.lemmas.Int.{to_z-of_z}
use Rattle.std.proofs.Math.ListN.{get_or-append}
use Rattle.std.proofs.Math.Nat.{pow-suc, lt_of_lt_of_le}
use Rattle.std.proofs.Math.Seq.{get_or-append-add}
use borrow.Author.Tests.{lt-ltb, le-ltb}
use lib.Signed.{mag}
use Rattle.program_text.specs.Text.{digit, minus, spelled, natural, decimal}
use Rattle.program_text.specs.TextLaws.{value_from, Spells}

-- ---- they are the library's

wide : (n : ℕ) → n < 10 ^ 20 → n < 10 ^ 64
wide n h = lt_of_lt_of_le h (lit≤ tt)

pub natural_is : (n : ℕ) → n < 10 ^ 20 → natural n ≡ Fmt.decimal n
unfolding natural spelled
natural_is n h =
    decimal_from_appends_wide spelled (record { one = λ k n l. rw (lt-ltb n 10 l) refl; more = λ k n l. rw (le-ltb n 10 l) refl }) 20 n (wide n h)
    (length-decimal-le_wide 20 n (omega arith) h (wide n h))

signed_is : (z : ℤ) → mag z < 2 ^ 63 → decimal z ≡ Fmt.signed_decimal z
unfolding decimal
signed_is (pos n) h = natural_is n (omega (arith, h))
signed_is (negsuc n) h = ap (λ cs. minus ∷ cs) (natural_is (suc n) (omega (arith, h)))

-- of a number of 64 bits, as it is handed on
pub decimal_is : (z : ℤ) → FitsSigned w64 z → decimal z ≡ Fmt.signed_decimal (to_z w64 (of_z w64 z))
decimal_is z f = rw (to_z-of_z w64 z f) (signed_is z f.sfits)

-- ---- they are the decimal text

tenth_below : (k n : ℕ) → n < 10 ^ suc k → n / 10 < 10 ^ k
tenth_below k n h = omega (arith, pow-suc 10 k)

value_append : (n : ℕ) (a : List ℕ) (c : ℕ) → value_from n (a ++ c ∷ []) ≡ 10 * value_from n a + (c - 48)
unfolding value_from
value_append n [] c = refl
value_append n (x ∷ a) c = value_append (10 * n + (x - 48)) a c

one_spells : (n : ℕ) → n < 10 → Spells n (digit n ∷ [])
unfolding value_from
one_spells n h = record { value = omega arith; digits = λ i l. at i l; first = λ l. omega arith; some = omega arith; few = λ k l _. l }
  where
    at : (i : ℕ) → i < 1 → (48 ≤ get_or (digit n ∷ []) i 0) × (get_or (digit n ∷ []) i 0 ≤ 57)
    at zero l = (omega arith, omega arith)
    at (suc i) l = absurd (omega arith)

module _ (n : ℕ) (a : List ℕ) (h : 10 ≤ n) (s : Spells (n / 10) a) where
  more_digits : (i : ℕ) → i < length (a ++ digit (n % 10) ∷ []) → (48 ≤ get_or (a ++ digit (n % 10) ∷ []) i 0) × (get_or (a ++ digit (n % 10) ∷ []) i 0 ≤ 57)
  more_digits i l =
      elim (cases_lt i (length a)) [
        | inl k ↦ rw (get_or-append a (digit (n % 10) ∷ []) 0 i k) (s.digits i k)
        | inr k ↦
            let e : length a + 0 ≡ i = omega (arith, length-append a (digit (n % 10) ∷ [])) in
            rw (← e, get_or-append-add a (digit (n % 10) ∷ []) 0 0) (omega arith, omega arith)
      ]

  more_few : (k : ℕ) → 1 ≤ k → n < 10 ^ k → length (a ++ digit (n % 10) ∷ []) ≤ k
  more_few zero u l = absurd (omega arith)
  more_few (suc zero) u l = absurd (omega arith)
  more_few (suc (suc k)) u l = rw (length-append a (digit (n % 10) ∷ [])) (omega (arith, s.few (suc k) (omega arith) (tenth_below (suc k) n l)))

  more_spells : Spells n (a ++ digit (n % 10) ∷ [])
  more_spells = record {
    value = value_append 0 a (digit (n % 10)) ∙ rw s.value (omega arith);
    digits = more_digits;
    first = λ l. rw (get_or-append a (digit (n % 10) ∷ []) 0 0 s.some) (s.first (omega arith));
    some = rw (length-append a (digit (n % 10) ∷ [])) (omega arith);
    few = more_few;
  }

pub natural_spells : (n : ℕ) → n < 10 ^ 20 → Spells n (natural n)
natural_spells n h = rw (natural_is n h) (decimal_by_steps_wide Spells one_spells more_spells n (wide n h))
