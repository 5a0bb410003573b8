-- A target in which things, one behind the other, have replaced what it held from an index on. Assumes nothing.
use Prim.Native.Nat.{ℕ, ◌+◌, ◌*◌, ◌≤◌}
use mathlib.Core.Path.{◌≡◌, sym, ◌∙◌, ap}
use mathlib.Core.List.{List, append-nil}
use native.Mathlib.Nat.{add-zero, le_antisymm}
use native.Mathlib.Numerals.{add-one}
use lib.ListN.{length, take, take-append-drop}
use Rattle.sheet_words.specs.Word.{replaced}
use Rattle.sheet_words.proofs.Replaced.{replaced_length, replaced_on}
use Rattle.sheet_assembly.specs.Assembled.{in_order}
use Rattle.sheet_assembly.proofs.InOrder.{in_order_length}

-- t is the target with the first k in it
pub record Replacing (f : ℕ → List ℕ) (start : ℕ) (target : List ℕ) (k : ℕ) (t : List ℕ) : Type 0 where
  pub is : t ≡ replaced target start (in_order f k)

module _ {f : ℕ → List ℕ} {start : ℕ} {target : List ℕ} where
  pub replacing_none : Replacing f start target 0 target
  unfolding in_order
  replacing_none = record { is = sym (rw (append-nil (take start target), add-zero start) (take-append-drop start target)) }

  pub replacing_all : {k n : ℕ} {t : List ℕ} → Replacing f start target k t → k ≤ n → n ≤ k → t ≡ replaced target start (in_order f n)
  replacing_all w h l = w.is ∙ ap (λ m. replaced target start (in_order f m)) (le_antisymm h l)

  -- where each has the length a
  module _ (a : ℕ) (each : (k : ℕ) → length (f k) ≡ a) {k : ℕ} {t : List ℕ} (fits : start + a * k ≤ length target) (w : Replacing f start target k t) where
    size : length (in_order f k) ≡ a * k
    size = in_order_length f a k (λ i h. each i)

    there : start + length (in_order f k) ≤ length target
    there = rw size fits

    pub replacing_length : length t ≡ length target
    replacing_length = ap length w.is ∙ replaced_length target start (in_order f k) there

    -- a store of the next
    pub replacing_next : {t' : List ℕ} → t' ≡ replaced t (start + a * k) (f k) → Replacing f start target (k + 1) t'
    unfolding in_order
    replacing_next e = record {
      is = e ∙ rw (w.is, add-one k) (ap (λ n. replaced (replaced target start (in_order f k)) (start + n) (f k)) (sym size)
          ∙ replaced_on target start (in_order f k) there (f k));
    }
