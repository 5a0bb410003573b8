-- Bytes that are longer than any sheet: their first ones say what refuses them. Assumes nothing.
use Prim.Native.Nat.{ℕ, ◌≤◌, ◌<◌}
use mathlib.Core.Path.{◌≡◌, refl, sym, ◌∙◌, ap}
use mathlib.Core.List.{List}
use mathlib.Core.Bool.{Bool, true, false, cond}
use native.Mathlib.Decide.{dec_lt}
use native.Mathlib.Nat.{mul-le-mul}
use native.Mathlib.Omega.{arith}
use borrow.Author.Tests.{le-ltb}
use lib.ListN.{length, take}
use lib.Seq.{length-take-le, take_all, get_or-take}
use Rattle.sheet_words.specs.Word.{byte_at}
use Rattle.sheet_layout.specs.Format.{marked}
use Rattle.sheet_calls.specs.Refusals.{other_mark, other_version, other_counts, other_length, sheet_refusal}
use Rattle.sheet_calls.proofs.Conditions.{condition_laws}
use Rattle.sheet_calls.proofs.Chains.{sheet_is}

-- what the header refuses them with, or 4
header_refusal : List ℕ → ℕ
header_refusal s = cond (other_mark s) 1 (cond (other_version s) 2 (cond (other_counts s) 3 4))

long_refusal : (s : List ℕ) → 25618 < length s → sheet_refusal s ≡ header_refusal s
unfolding header_refusal
long_refusal s long = sheet_is s ∙ ap (λ n. cond (other_mark s) 1 (cond (other_version s) 2 n)) (four (other_counts s) (other_length s) refl refl _)
  where
    four : (b c : Bool) → other_counts s ≡ b → other_length s ≡ c → (n : ℕ) → cond b 3 (cond c 4 n) ≡ cond b 3 4
    four true c p q n = refl
    four false true p q n = refl
    four false false p q n =
        let counts = (condition_laws.three s).0 p in
        absurd (omega (arith, (condition_laws.four s).0 q, counts.1, counts.3, mul-le-mul counts.1 counts.3))

module _ (s : List ℕ) (n : ℕ) (long : 25618 < n) where
  module _ (longer : n ≤ length s) where
    taken_length : length (take n s) ≡ n
    taken_length = length-take-le n s longer

    byte : (i : ℕ) → i < 8 → byte_at (take n s) i ≡ byte_at s i
    byte i h = get_or-take n s i 0 (omega arith)

    same_header : header_refusal (take n s) ≡ header_refusal s
    unfolding header_refusal other_mark marked other_version other_counts
    same_header =
        rw (
          le-ltb (length (take n s)) 8 (omega (arith, taken_length)),
          le-ltb (length s) 8 (omega arith),
          byte 0 (omega arith),
          byte 1 (omega arith),
          byte 2 (omega arith),
          byte 3 (omega arith),
          byte 4 (omega arith),
          byte 5 (omega arith),
          byte 6 (omega arith),
          byte 7 (omega arith),
        ) refl

    both_long : sheet_refusal (take n s) ≡ sheet_refusal s
    both_long = long_refusal (take n s) (omega (arith, taken_length)) ∙ same_header ∙ sym (long_refusal s (omega arith))

  pub cut_refusal : sheet_refusal (take n s) ≡ sheet_refusal s
  cut_refusal = elim (dec_lt (length s) n) [ yes l ↦ ap sheet_refusal (take_all n s (omega arith)) | no l ↦ both_long (omega arith) ]
