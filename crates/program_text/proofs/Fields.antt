-- A line of numbers field by field: each field goes behind those before it, and the last ends the line. Assumes nothing.
use Prim.Native.Nat.{ℕ, zero, suc, ◌+◌, ◌≤◌, ◌<◌}
use mathlib.Core.Path.{◌≡◌, refl, sym, ◌∙◌, ap, subst, subst⁻¹}
use mathlib.Core.List.{List, [], ◌∷◌, ◌++◌, append_assoc}
use native.Mathlib.Omega.{arith}
use lib.IntN.{ℤ, pos}
use lib.ListN.{length, get_or, drop}
use Rattle.program_text.specs.Text.{newline, blank, field, line}
use Rattle.program_text.proofs.Written.{Written, none_written, first_fits, second_fits, both_written}

-- the number of index k
abbrev pub number : List ℤ → ℕ → ℤ
number zs k = get_or zs k (pos 0)

-- the fields of the first k numbers, a blank behind each
unfoldable pub fields : List ℤ → ℕ → List ℕ
fields zs zero = []
fields zs (suc k) = fields zs k ++ field (number zs k) blank

-- the field of the number of index k, where it is the last
abbrev last_field : List ℤ → ℕ → List ℕ
last_field zs k = field (number zs k) newline

-- the line from the number of index k on: its field and those behind it, or the last field
line_more : (zs : List ℤ) (k : ℕ) → suc k < length zs → line (drop k zs) ≡ field (number zs k) blank ++ line (drop (suc k) zs)
unfolding line
line_more [] k h = absurd (omega arith)
line_more (z ∷ []) k h = absurd (omega arith)
line_more (z ∷ w ∷ zs) zero h = refl
line_more (z ∷ w ∷ zs) (suc k) h = line_more (w ∷ zs) k (omega arith)

line_ends : (zs : List ℤ) (k : ℕ) → suc k ≡ length zs → line (drop k zs) ≡ last_field zs k
unfolding line
line_ends [] k h = absurd (omega arith)
line_ends (z ∷ []) zero h = refl
line_ends (z ∷ []) (suc k) h = absurd (omega arith)
line_ends (z ∷ w ∷ zs) zero h = absurd (omega arith)
line_ends (z ∷ w ∷ zs) (suc k) h = line_ends (w ∷ zs) k (omega arith)

line_from_lem : (zs : List ℤ) (k : ℕ) → k < length zs → line zs ≡ fields zs k ++ line (drop k zs)
unfolding fields
line_from_lem zs zero h = refl
line_from_lem zs (suc k) h = line_from_lem zs k (omega arith) ∙ rw (line_more zs k h) (sym (append_assoc (fields zs k) _ _))

line_whole : (zs : List ℤ) (k : ℕ) → suc k ≡ length zs → line zs ≡ fields zs k ++ last_field zs k
line_whole zs k h = line_from_lem zs k (omega arith) ∙ ap (λ b. fields zs k ++ b) (line_ends zs k h)

pub starts : (s : List ℕ) (i : ℕ) (zs : List ℤ) → Written s i (fields zs 0) s i
unfolding fields
starts s i zs = none_written s i

-- where the line fits from index i of s on, and the first k fields are written, there is room for the next, and then it is written too
module _ (s : List ℕ) (i : ℕ) (zs : List ℤ) (fits : i + length (line zs) ≤ length s) (k : ℕ) {t : List ℕ} {e : ℕ} (w : Written s i (fields zs k) t e) where
  module _ (more : suc k < length zs) where
    next_fits : i + length (fields zs k ++ field (number zs k) blank) ≤ length s
    unfolding fields
    next_fits = first_fits s i (fields zs (suc k)) (line (drop (suc k) zs)) (subst (λ b. i + length b ≤ length s) (line_from_lem zs (suc k) more) fits)

    pub next_room : e + length (field (number zs k) blank) ≤ length t
    next_room = second_fits s i (fields zs k) (field (number zs k) blank) next_fits w

    pub next_written : {u : List ℕ} {f : ℕ} → Written t e (field (number zs k) blank) u f → Written s i (fields zs (suc k)) u f
    unfolding fields
    next_written v = both_written s i (fields zs k) (field (number zs k) blank) next_fits w v

  -- the last one ends the line
  module _ (ends : suc k ≡ length zs) where
    last_fits : i + length (fields zs k ++ last_field zs k) ≤ length s
    last_fits = subst (λ b. i + length b ≤ length s) (line_whole zs k ends) fits

    pub last_room : e + length (last_field zs k) ≤ length t
    last_room = second_fits s i (fields zs k) (last_field zs k) last_fits w

    pub line_written : {u : List ℕ} {f : ℕ} → Written t e (last_field zs k) u f → Written s i (line zs) u f
    line_written {u} {f} v =
        subst⁻¹ (λ b. Written s i b u f) (line_whole zs k ends) (both_written s i (fields zs k) (last_field zs k) last_fits w v)
