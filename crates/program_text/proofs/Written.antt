-- A list in which a text is written from an index on, and the index behind it: by one store, and by one text after the other. Assumes nothing.
use Prim.Native.Nat.{ℕ, ◌+◌, ◌≤◌, ◌<◌}
use mathlib.Core.Path.{◌≡◌, refl, sym, ◌∙◌}
use mathlib.Core.List.{List, [], ◌∷◌, ◌++◌, append-nil}
use native.Mathlib.Nat.{add_assoc, add-zero, zero-add}
use native.Mathlib.Omega.{arith}
use lib.ListN.{length, set, take, length-append, take-append-drop}
use lib.Seq.{sets-eq}
use Rattle.sheet_words.specs.Word.{replaced}
use Rattle.sheet_words.proofs.Replaced.{replaced_length, replaced_on}

-- t is s with the text b from index i on, which ends before index e
abbrev pub Written : List ℕ → ℕ → List ℕ → List ℕ → ℕ → Type 0
Written s i b t e = (e ≡ i + length b) × (t ≡ replaced s i b)

pub none_written : (s : List ℕ) (i : ℕ) → Written s i [] s i
none_written s i = (sym (add-zero i), sym (rw (append-nil (take i s), add-zero i) (take-append-drop i s)))

pub one_written : (s : List ℕ) (i c : ℕ) → i < length s → Written s i (c ∷ []) (set s i c) (i + 1)
one_written s i c h = (refl, sets-eq (c ∷ []) s i (omega arith))

-- room for two texts: for the first of them, for the second behind it, and then both are written
module _ (s : List ℕ) (i : ℕ) (b c : List ℕ) (fits : i + length (b ++ c) ≤ length s) where
  pub first_fits : i + length b ≤ length s
  first_fits = omega (arith, length-append b c)

  module _ {t : List ℕ} {e : ℕ} (w : Written s i b t e) where
    pub second_fits : e + length c ≤ length t
    second_fits = rw (w.0, w.1, replaced_length s i b first_fits) (omega (arith, length-append b c))

    pub both_written : {u : List ℕ} {f : ℕ} → Written t e c u f → Written s i (b ++ c) u f
    both_written v = (
      v.0 ∙ rw (w.0, length-append b c) (add_assoc i (length b) (length c)),
      v.1 ∙ rw (w.0, w.1) (replaced_on s i b first_fits c),
    )

-- t is s with the text b at its start, which has r bytes
abbrev pub AtStart : List ℕ → List ℕ → List ℕ → ℕ → Type 0
AtStart s b t r = (r ≡ length b) × (t ≡ replaced s 0 b)

pub at_start : (s b : List ℕ) {t : List ℕ} {r : ℕ} → Written s 0 b t r → AtStart s b t r
at_start s b w = (w.0 ∙ zero-add (length b), w.1)

-- one character more
module _ (s : List ℕ) (i : ℕ) (b : List ℕ) (c : ℕ) (fits : i + length (b ++ c ∷ []) ≤ length s) {t : List ℕ} {e : ℕ} (w : Written s i b t e) where
  pub last_inside : e < length t
  last_inside = omega (arith, second_fits s i b (c ∷ []) fits w)

  pub last_written : Written s i (b ++ c ∷ []) (set t e c) (e + 1)
  last_written = both_written s i b (c ∷ []) fits w (one_written t e c last_inside)
