-- How many texts an accepted sheet has: one for each row of pixels. Assumes nothing.
use Prim.Native.Nat.{ℕ, ◌+◌, ◌-◌}
use mathlib.Core.Path.{◌≡◌, refl}
use mathlib.Core.List.{List}
use Rattle.sheet_calls.specs.Refusals.{sheet_refusal}
use Rattle.program_listing.specs.Listing.{first_y, last_y, text_count}

module _ (s : List ℕ) (accepted : sheet_refusal s ≡ 0) where
  pub row_count_lem : text_count s ≡ last_y s + 1 - first_y s
  unfolding text_count
  row_count_lem = rw accepted refl
