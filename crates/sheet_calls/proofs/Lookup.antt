-- What looking up a node hands back. Assumes nothing.
use Prim.Native.Nat.{ℕ, ◌+◌, ◌≤◌, ◌<◌}
use mathlib.Core.Path.{◌≡◌, refl}
use mathlib.Core.List.{List, []}
use native.Mathlib.Decide.{ℕ_discrete}
use native.Mathlib.Omega.{arith}
use lib.ListN.{length}
use borrow.Author.Tests.{eq-eqb, ne_eqb}
use Rattle.sheet_words.specs.Word.{byte_at}
use Rattle.sheet_words.proofs.Replaced.{stretch_length, stretch_byte}
use Rattle.sheet_layout.specs.Format.{decoded, node_size, node_offset, node_at}
use Rattle.sheet_layout.proofs.Offsets.{node_fits}
use Rattle.sheet_calls.specs.Refusals.{lookup_refusal}
use Rattle.sheet_calls.specs.Calls.{stretch, looked_up, bytes_in}
use Rattle.sheet_calls.specs.NodeLaws.{LookupLaws}
use Rattle.sheet_calls.proofs.Chains.{HasNode, lookup_held}
use Rattle.sheet_calls.proofs.WellFormed.{nodes_there}

found : (s : List ℕ) (i j : ℕ) → lookup_refusal s i j ≡ 0 → looked_up s i j ≡ stretch (node_offset s i j) node_size
unfolding looked_up
found s i j e = rw (eq-eqb _ _ e) refl

refused : (s : List ℕ) (i j : ℕ) → ¬ (lookup_refusal s i j ≡ 0) → looked_up s i j ≡ stretch 0 0
unfolding looked_up
refused s i j h = rw (ne_eqb _ _ h) refl

-- a node that the sheet has lies in it
pub has_fits : {s : List ℕ} {i j : ℕ} → HasNode s i j → node_offset s i j + node_size ≤ length s
has_fits {s} {i} {j} h = node_fits s (nodes_there s h.accepted) i j h.column h.row

pub node_there : (s : List ℕ) (i j : ℕ) → lookup_refusal s i j ≡ 0 → node_offset s i j + node_size ≤ length s
node_there s i j e = has_fits (lookup_held s i j e)

fits : (s : List ℕ) (i j : ℕ) → (looked_up s i j).start + (looked_up s i j).size ≤ length s
fits s i j =
    elim (ℕ_discrete (lookup_refusal s i j) 0) [ yes e ↦ rw (found s i j e) (node_there s i j e) | no h ↦ rw (refused s i j h) (omega arith) ]

numbers : (s : List ℕ) (i j : ℕ) → lookup_refusal s i j ≡ 0 → decoded (bytes_in s (looked_up s i j)) ≡ node_at s i j
unfolding node_at
numbers s i j e = rw (found s i j e) refl

six : (s : List ℕ) (i j : ℕ) → lookup_refusal s i j ≡ 0 → length (bytes_in s (looked_up s i j)) ≡ 6
six s i j e = rw (found s i j e) (stretch_length s (node_offset s i j) node_size (node_there s i j e))

each : (s : List ℕ) (i j : ℕ) → lookup_refusal s i j ≡ 0 → (k : ℕ) → k < 6 → byte_at (bytes_in s (looked_up s i j)) k ≡ byte_at s (node_offset s i j + k)
each s i j e k l = rw (found s i j e) (stretch_byte s (node_offset s i j) node_size k l)

none : (s : List ℕ) (i j : ℕ) → ¬ (lookup_refusal s i j ≡ 0) → bytes_in s (looked_up s i j) ≡ []
none s i j h = rw (refused s i j h) refl

pub lookup_laws : LookupLaws
lookup_laws = record { found = found; refused = refused; fits = fits; numbers = numbers; six = six; each = each; none = none }
