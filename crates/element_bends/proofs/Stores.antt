-- Lists stored one behind the other, by `sets`: what is stored so far, and where it goes on. Assumes nothing.
use Prim.Native.Nat.{ℕ, suc, ◌+◌, ◌≤◌}
use mathlib.Core.Path.{◌≡◌, refl, sym, ◌∙◌, ap}
use mathlib.Core.List.{List, [], ◌∷◌, ◌++◌}
use native.Mathlib.Nat.{add-zero, add-suc, suc-add}
use native.Mathlib.Omega.{arith}
use lib.ListN.{length, set, length-append}
use lib.Seq.{sets, length-sets}

module _ {A : Type 0} where
  sets_append : (l : List A) (i : ℕ) (us vs : List A) → sets (sets l i us) (i + length us) vs ≡ sets l i (us ++ vs)
  sets_append l i [] vs = ap (λ j. sets l j vs) (add-zero i)
  sets_append l i (u ∷ us) vs = ap (λ j. sets (sets (set l i u) (suc i) us) j vs) (add-suc i (length us) ∙ sym (suc-add i (length us))) ∙ sets_append (set l i u) (suc i) us vs

-- in what was l₀, `done` is stored from index i₀ on: it is l now, and i is the index behind
pub record Stored {A : Type 0} (l₀ : List A) (i₀ : ℕ) (done l : List A) (i : ℕ) : Type 0 where
  pub behind : i ≡ i₀ + length done
  pub holds : l ≡ sets l₀ i₀ done

module _ {A : Type 0} {l₀ : List A} {i₀ : ℕ} where
  pub none_stored : Stored l₀ i₀ [] l₀ i₀
  none_stored = record { behind = sym (add-zero i₀); holds = refl }

  module _ {done l : List A} {i : ℕ} (h : Stored l₀ i₀ done l i) where
    pub same_size : length l ≡ length l₀
    same_size = ap length h.holds ∙ length-sets l₀ i₀ done

    -- one list more
    pub goes_on : (more : List A) {l' : List A} {i' : ℕ} → (i' ≡ i + length more) × (l' ≡ sets l i more) → Stored l₀ i₀ (done ++ more) l' i'
    goes_on more (d, e) = record {
      behind = rw length-append (omega (arith, d, h.behind));
      holds = e ∙ (λ t. sets (h.holds t) (h.behind t) more) ∙ sets_append l₀ i₀ done more;
    }

    -- there is room for it, where there is room for all
    pub fits : (more rest : List A) → i₀ + length (done ++ (more ++ rest)) ≤ length l₀ → i + length more ≤ length l
    fits more rest r = omega (arith, r, same_size, h.behind, length-append done (more ++ rest), length-append more rest)
