-- The texts that are printed one after the other: which they are, and what is proved of them. Assumes nothing.
use Prim.Native.Nat.{ℕ, ◌+◌, ◌≤◌, ◌<◌}
use mathlib.Core.Path.{◌≡◌, refl, ◌∙◌}
use mathlib.Core.List.{List, []}
use native.Mathlib.Decide.{dec_lt, ℕ_discrete}
use native.Mathlib.Omega.{arith}
use borrow.Author.Tests.{lt-ltb, le-ltb, ne_eqb}
use lib.ListN.{length, length-append}
use Rattle.sheet_calls.specs.Refusals.{sheet_refusal}
use Rattle.sheet_calls.proofs.Chains.{accepts}
use Rattle.surface_of_sheet.proofs.Cells.{last_y_near}
use Rattle.program_text.specs.Text.{refused_line}
use Rattle.program_listing.specs.Listing.{sequence, first_y, OnRow, row_text, printed, text_count, next_text}
use Rattle.program_listing.proofs.Begun.{row_some}
use Rattle.program_listing.proofs.RowCount.{row_count_lem}
use Rattle.program_listing.proofs.Sequence.{sequence_same, sequence_ended}

-- ---- of an accepted sheet: the rows

module _ (s : List ℕ) (accepted : sheet_refusal s ≡ 0) where
  pub row_there : (k : ℕ) → k < text_count s → OnRow s (first_y s + k)
  row_there k h = record { accepted = accepts accepted; top = omega arith; bottom = omega (arith, row_count_lem s accepted) }

  pub row_next : (k : ℕ) → k < text_count s → next_text s k ≡ row_text s (first_y s + k)
  unfolding next_text
  row_next k h = rw (lt-ltb k (text_count s) h, accepted) refl

  rows_whole : sequence (next_text s) (text_count s) ≡ printed s
  unfolding printed
  rows_whole = sequence_same (next_text s) (λ k. row_text s (first_y s + k)) (text_count s) row_next ∙ rw (row_count_lem s accepted, accepted) refl

-- ---- of a refused one: the refusal's line

module _ (s : List ℕ) (refused : sheet_refusal s ≡ 0 → ⊥) where
  pub line_count : text_count s ≡ 1
  unfolding text_count
  line_count = rw (ne_eqb (sheet_refusal s) 0 refused) refl

  pub line_next : (k : ℕ) → k < text_count s → next_text s k ≡ refused_line (sheet_refusal s)
  unfolding next_text
  line_next k h = rw (lt-ltb k (text_count s) h, ne_eqb (sheet_refusal s) 0 refused) refl

  pub line_printed : printed s ≡ refused_line (sheet_refusal s)
  unfolding printed
  line_printed = rw (ne_eqb (sheet_refusal s) 0 refused) refl

  line_whole : sequence (next_text s) (text_count s) ≡ printed s
  unfolding sequence
  line_whole = rw (line_count, line_printed) (line_next 0 (omega (arith, line_count)))

-- ---- of both

refused_some : (n : ℕ) → 0 < length (refused_line n)
unfolding refused_line
refused_some n = simp length-append (omega arith)

pub next_none : (s : List ℕ) (k : ℕ) → text_count s ≤ k → next_text s k ≡ []
unfolding next_text
next_none s k h = rw (le-ltb k (text_count s) h) refl

pub whole : (s : List ℕ) → sequence (next_text s) (text_count s) ≡ printed s
whole s = elim (ℕ_discrete (sheet_refusal s) 0) [ yes e ↦ rows_whole s e | no h ↦ line_whole s h ]

pub some : (s : List ℕ) (k : ℕ) → k < text_count s → 0 < length (next_text s k)
some s k l =
    elim (ℕ_discrete (sheet_refusal s) 0) [
      | yes e ↦ rw (row_next s e k l) (row_some s _ (row_there s e k l))
      | no h ↦ rw (line_next s h k l) (refused_some (sheet_refusal s))
    ]

-- no bytes say that the end is reached
ended : (s : List ℕ) (k : ℕ) → length (next_text s k) ≡ 0 → text_count s ≤ k
ended s k e = elim (dec_lt k (text_count s)) [ yes l ↦ absurd (omega (arith, some s k l)) | no l ↦ omega arith ]

pub few : (s : List ℕ) → text_count s ≤ 4097
few s =
    elim (ℕ_discrete (sheet_refusal s) 0) [
      | yes e ↦ omega (arith, row_count_lem s e, last_y_near s (accepts e))
      | no h ↦ omega (arith, line_count s h)
    ]

-- and then all is printed
pub done : (s : List ℕ) (k : ℕ) → length (next_text s k) ≡ 0 → sequence (next_text s) k ≡ printed s
done s k e = sequence_ended (next_text s) (text_count s) k (next_none s) (ended s k e) ∙ whole s
