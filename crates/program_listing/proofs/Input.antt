-- Input that is longer than any sheet: its first bytes say what is printed. Assumes nothing.
use Prim.Native.Nat.{ℕ, ◌≤◌, ◌<◌}
use mathlib.Core.Path.{◌≡◌, sym, ◌∙◌, ap}
use mathlib.Core.List.{List}
use native.Mathlib.Decide.{dec_lt}
use native.Mathlib.Omega.{arith}
use lib.ListN.{length, take}
use lib.Seq.{length-take-le, take_all}
use Rattle.sheet_calls.specs.Refusals.{sheet_refusal}
use Rattle.sheet_calls.proofs.Chains.{accepts}
use Rattle.sheet_calls.proofs.WellFormed.{accepted_laws}
use Rattle.program_text.specs.Text.{refused_line}
use Rattle.program_listing.specs.Listing.{printed}
use Rattle.program_listing.proofs.Texts.{line_printed}

long_printed : (s : List ℕ) → 25618 < length s → printed s ≡ refused_line (sheet_refusal s)
long_printed s long = line_printed s (λ e. omega (arith, accepted_laws.longest s (accepts e)))

module _ (s : List ℕ) (n : ℕ) (long : 25618 < n) where
  both_long : n ≤ length s → printed (take n s) ≡ printed s
  both_long longer =
      long_printed (take n s) (omega (arith, length-take-le n s longer)) ∙ ap refused_line (accepted_laws.cut s n long) ∙ sym (long_printed s (omega arith))

  pub taken_printed : printed (take n s) ≡ printed s
  taken_printed = elim (dec_lt (length s) n) [ yes l ↦ ap printed (take_all n s (omega arith)) | no l ↦ both_long (omega arith) ]
