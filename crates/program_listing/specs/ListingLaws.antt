-- What is proved of the texts: one after the other they are all that is printed, an empty one says the end, and enough of the input is read. Assumes nothing.
use Rattle.std.specs.Prelude.{ℕ, ◌≤◌, ◌<◌, ◌≡◌, List, [], length, take}
use Rattle.program_listing.specs.Listing.{sequence, printed, text_count, next_text, input_room}

pub record ListingLaws : Type 0 where
  -- one after the other, they are all that is printed
  pub whole : (s : List ℕ) → sequence (next_text s) (text_count s) ≡ printed s
  -- each of them has a byte at least, and what comes after them has none
  pub some : (s : List ℕ) (k : ℕ) → k < text_count s → 0 < length (next_text s k)
  pub none : (s : List ℕ) (k : ℕ) → text_count s ≤ k → next_text s k ≡ []
  -- so where the next text has no bytes, all is printed
  pub done : (s : List ℕ) (k : ℕ) → length (next_text s k) ≡ 0 → sequence (next_text s) k ≡ printed s
  -- and that comes: a sheet has at most 4,097 rows
  pub few : (s : List ℕ) → text_count s ≤ 4097
  -- what stands in the input behind the bytes that are read changes nothing
  pub read : (input : List ℕ) → printed (take input_room input) ≡ printed input
