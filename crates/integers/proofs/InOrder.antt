-- A list that starts with f k and goes on with f (k + 1), n long: how long it is, what lies at each place, and in two parts. Assumes nothing.
use Prim.Native.Nat.{ℕ, zero, suc, ◌+◌, ◌<◌}
use mathlib.Core.Path.{◌≡◌, sym, ◌∙◌, ap}
use mathlib.Core.List.{List, [], ◌∷◌, ◌++◌}
use native.Mathlib.Nat.{zero-add, add-zero, suc-add, add-suc}
use native.Mathlib.Omega.{arith}
use lib.ListN.{length, get_or}

-- of every g that makes such lists
module _ {A : Type 0} (f : ℕ → A) (g : ℕ → ℕ → List A) (none : (k : ℕ) → g k zero ≡ []) (more : (k n : ℕ) → g k (suc n) ≡ f k ∷ g (suc k) n) where
  pub size_of : (k n : ℕ) → length (g k n) ≡ n
  size_of k zero = ap length (none k)
  size_of k (suc n) = ap length (more k n) ∙ ap suc (size_of (suc k) n)

  -- i further from the next number is one more from this one
  next : (k i : ℕ) → suc k + i ≡ k + suc i
  next k i = suc-add k i ∙ sym (add-suc k i)

  pub place_of : (k n i : ℕ) → i < n → (z : A) → get_or (g k n) i z ≡ f (k + i)
  place_of k zero i h z = absurd (omega (arith, h))
  place_of k (suc n) zero h z = ap (λ l. get_or l 0 z) (more k n) ∙ ap f (sym (add-zero k))
  place_of k (suc n) (suc i) h z = ap (λ l. get_or l (suc i) z) (more k n) ∙ place_of (suc k) n i (omega (arith, h)) z ∙ ap f (next k i)

  pub parts_of : (k n m : ℕ) → g k (n + m) ≡ g k n ++ g (k + n) m
  parts_of k zero m = (λ t. g (sym (add-zero k) t) (zero-add m t)) ∙ ap (λ l. l ++ g (k + 0) m) (sym (none k))
  parts_of k (suc n) m =
      ap (g k) (suc-add n m) ∙ more k (n + m) ∙ ap (λ l. f k ∷ l) (parts_of (suc k) n m ∙ ap (λ i. g (suc k) n ++ g i m) (next k n))
      ∙ ap (λ l. l ++ g (k + suc n) m) (sym (more k n))
