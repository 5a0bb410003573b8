-- What each `return` of `sheet_refusal` says, and what the tests that did not hold leave for the next one. Assumes nothing.
use Prim.Native.Nat.{ℕ, ◌≤◌, ◌<◌}
use mathlib.Core.Path.{◌≡◌, refl}
use mathlib.Core.List.{List}
use mathlib.Core.Bool.{true, false}
use native.Mathlib.Omega.{arith}
use lib.ListN.{length}
use Rattle.sheet_layout.specs.Format.{header_size, columns, rows}
use Rattle.sheet_calls.specs.Refusals.{other_mark, other_version, other_counts, other_length, wrong_lines, wrong_nodes, sheet_refusal}
use Rattle.sheet_calls.proofs.Chains.{sheet_is}
use Rattle.sheet_calls.proofs.Conditions.{condition_laws}

module _ (s : List ℕ) where
  pub by_mark : other_mark s ≡ true → 1 ≡ sheet_refusal s
  by_mark e = rw (sheet_is s, e) refl

  module _ (mark : other_mark s ≡ false) where
    pub header : header_size ≤ length s
    header = ((condition_laws.one s).0 mark).0

    pub by_version : other_version s ≡ true → 2 ≡ sheet_refusal s
    by_version e = rw (sheet_is s, mark, e) refl

    pub by_counts : other_version s ≡ false → other_counts s ≡ true → 3 ≡ sheet_refusal s
    by_counts version e = rw (sheet_is s, mark, version, e) refl

  -- the header's checks have passed
  abbrev Header : Type 0
  Header = (other_mark s ≡ false) × (other_version s ≡ false) × (other_counts s ≡ false)

  module _ (h : Header) where
    pub by_length : other_length s ≡ true → 4 ≡ sheet_refusal s
    by_length e = rw (sheet_is s, h.0, h.1, h.2, e) refl

    module _ (size : other_length s ≡ false) where
      pub by_lines : wrong_lines s ≡ true → 5 ≡ sheet_refusal s
      by_lines e = rw (sheet_is s, h.0, h.1, h.2, size, e) refl

      module _ (lines : wrong_lines s ≡ false) where
        pub by_nodes : wrong_nodes s ≡ true → 6 ≡ sheet_refusal s
        by_nodes e = rw (sheet_is s, h.0, h.1, h.2, size, lines, e) refl

        pub passes : wrong_nodes s ≡ false → 0 ≡ sheet_refusal s
        passes e = rw (sheet_is s, h.0, h.1, h.2, size, lines, e) refl
