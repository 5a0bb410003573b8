-- What looking up a node hands back and what setting one leaves, for every input. Assumes nothing.
use Rattle.std.specs.Prelude.{ℕ, ◌+◌, ◌≡◌, List, cond, take, drop, eqb}
use Rattle.std.specs.Borrow.{Bor}
use Rattle.sheet_words.specs.Word.{replaced}
use Rattle.sheet_layout.specs.Format.{Node, encoded, node_size, node_offset}
use Rattle.sheet_calls.specs.Refusals.{lookup_refusal, setting_refusal}

-- ---- looking up

-- a stretch of bytes: where it starts and how many they are
pub record Stretch : Type 0 where
  pub start : ℕ
  pub size : ℕ

-- n bytes from index a on
abbrev pub stretch : ℕ → ℕ → Stretch
stretch a n = record { start = a; size = n }

-- the node's bytes, or, refused, none from the start
unfoldable pub looked_up : List ℕ → ℕ → ℕ → Stretch
looked_up s i j = cond (eqb (lookup_refusal s i j) 0) (stretch (node_offset s i j) node_size) (stretch 0 0)

-- the bytes of a sheet there
abbrev pub bytes_in : List ℕ → Stretch → List ℕ
bytes_in s p = take p.size (drop p.start s)

-- r is that part of the slice s itself: the same bytes, in the same block of memory, from the stretch's start on
pub record Part (s r : Bor (List ℕ)) (p : Stretch) : Type 0 where
  pub bytes : r.now ≡ bytes_in s.now p
  pub block : r.ref_ptr.0 ≡ s.ref_ptr.0
  pub address : r.ref_ptr.1 ≡ p.start + s.ref_ptr.1

-- ---- setting

-- s with the node's bytes anew, or, refused, as it was
unfoldable pub with_node : List ℕ → ℕ → ℕ → Node → List ℕ
with_node s i j v = cond (eqb (setting_refusal s i j v) 0) (replaced s (node_offset s i j) (encoded v)) s
