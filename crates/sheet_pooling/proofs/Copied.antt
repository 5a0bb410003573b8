-- Bytes of a list, copied one by one. Assumes nothing.
use Prim.Native.Nat.{ℕ, zero, suc, ◌+◌, ◌*◌, ◌≤◌, ◌<◌}
use mathlib.Core.Path.{◌≡◌, refl, ◌∙◌, ap}
use mathlib.Core.List.{List, [], ◌∷◌}
use native.Mathlib.Numerals.{add-one}
use native.Mathlib.Omega.{arith}
use lib.ListN.{length, take, set}
use lib.Seq.{take-add, drop-cons, sets-eq}
use Rattle.sheet_words.specs.Word.{byte_at, replaced}
use Rattle.sheet_assembly.specs.Assembled.{in_order}

-- byte k, as a list
abbrev pub byte_of : List ℕ → ℕ → List ℕ
byte_of a k = byte_at a k ∷ []

-- a store of one byte
pub stored : (t : List ℕ) (k x : ℕ) → k < length t → set t k x ≡ replaced t (0 + 1 * k) (x ∷ [])
stored t k x h = let at : k ≡ 0 + 1 * k = omega arith in sets-eq (x ∷ []) t k (omega (arith, h)) ∙ ap (λ i. replaced t i (x ∷ [])) at

-- the first bytes, one behind the other
pub first_bytes : (a : List ℕ) (n : ℕ) → n ≤ length a → in_order (byte_of a) n ≡ take n a
unfolding in_order
first_bytes a zero h = refl
first_bytes a (suc n) h = rw (first_bytes a n (omega arith), ← add-one n, take-add n 1 a, drop-cons a n 0 (omega arith)) refl
