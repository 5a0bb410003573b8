-- Lists stored in turn, by `in_turn`: how a loop over them begins, has room, and ends. Assumes nothing.
use Prim.Native.Nat.{ℕ, suc, ◌+◌, ◌≤◌, ◌<◌}
use mathlib.Core.Path.{◌≡◌}
use mathlib.Core.List.{List, [], append_assoc}
use lib.IntN.{ℤ}
use lib.ListN.{length}
use Rattle.element_bends.proofs.Stores.{Stored, none_stored, fits}
use Rattle.surface_bends.specs.Bends.{in_turn}
use Rattle.surface_bends.proofs.InTurn.{none_in_turn, no_more_in_turn, first_in_turn}

module _ (f : ℕ → List ℤ) {b : List ℤ} {at : ℕ} where
  -- none but empty ones
  pub begins : (n : ℕ) → ((i : ℕ) → i < n → f i ≡ []) → Stored b at (in_turn n f) b at
  begins n none = rw (none_in_turn n f none) none_stored

  module _ (n : ℕ) {l : List ℤ} {end : ℕ} (h : Stored b at (in_turn n f) l end) (m : ℕ) where
    -- there is room for the next one, where there is room for all
    pub next_fits : suc n ≤ m → at + length (in_turn m f) ≤ length b → end + length (f n) ≤ length l
    unfolding in_turn
    next_fits s r = let (rest, e) = first_in_turn (suc n) m f s in fits h (f n) rest (rw (e, append_assoc) at r)

    -- those behind are empty, so all are stored
    pub ends : n ≤ m → ((i : ℕ) → n ≤ i → i < m → f i ≡ []) → Stored b at (in_turn m f) l end
    ends s none = rw (no_more_in_turn n m f s none) h
