-- A well-formed sheet with a node's bytes written anew is well-formed, where the new numbers are in range. Assumes nothing.
use Prim.Native.Nat.{ℕ, suc, ◌+◌, ◌≤◌, ◌<◌}
use mathlib.Core.Path.{◌≡◌, ◌∙◌, sym}
use mathlib.Core.Logic.Dec
use mathlib.Core.List.{List}
use mathlib.Core.Bool.{true}
use native.Mathlib.Decide.{ℕ_discrete}
use native.Mathlib.Nat.{le_of_eq}
use native.Mathlib.Omega.{arith}
use lib.ListN.{length}
use Rattle.sheet_layout.specs.Format.{columns, rows, line_x, line_y, Node, node_in, node_size, node_offset, node_at}
use Rattle.sheet_layout.proofs.Offsets.{node_fits}
use Rattle.sheet_layout.proofs.SameFront.{SameFront, same_columns_lem, same_rows_lem, front_word, same_line_x, same_line_y}
use Rattle.sheet_layout.proofs.Written.{written, written_length, written_front, written_node, written_others}
use Rattle.sheet_calls.specs.WellFormed.{Rising, InRange, WellFormed}
use Rattle.sheet_calls.proofs.Ranges.{node_in_range}

pub same_rising : (line line' : ℕ → ℕ) (n : ℕ) → ((k : ℕ) → k < n → line' k ≡ line k) → Rising line n → Rising line' n
same_rising line line' n same r =
    record {
      near = λ k h. rw (same k h) (r.near k h);
      rises = λ k h. rw (same k (omega arith), same (suc k) h) (r.rises k h);
      narrow = λ k h. rw (same k (omega arith), same (suc k) h) (r.narrow k h);
    }

-- a sheet with the same bytes before the nodes, of the same length, with its nodes in range
module _ {s t : List ℕ} (same : SameFront s t) where
  pub same_well_formed : WellFormed s → length t ≡ length s → ((i j : ℕ) → i < columns s → j < rows s → InRange (node_at t i j)) → WellFormed t
  same_well_formed w l n =
      record {
        mark_l = same.bytes 0 (omega arith) ∙ w.mark_l;
        mark_v = same.bytes 1 (omega arith) ∙ w.mark_v;
        mark_s = same.bytes 2 (omega arith) ∙ w.mark_s;
        version_one = front_word same 3 (omega arith) ∙ w.version_one;
        few_columns = rw (same_columns_lem same) w.few_columns;
        many_columns = rw (same_columns_lem same) w.many_columns;
        few_rows = rw (same_rows_lem same) w.few_rows;
        many_rows = rw (same_rows_lem same) w.many_rows;
        blank = same.bytes 7 (omega arith) ∙ w.blank;
        whole = rw (same_columns_lem same, same_rows_lem same) (l ∙ w.whole);
        rising_x = rw (same_columns_lem same) (same_rising (line_x s) (line_x t) (columns s) (same_line_x same) w.rising_x);
        rising_y = rw (same_rows_lem same) (same_rising (line_y s) (line_y t) (rows s) (same_line_y same) w.rising_y);
        ranges = rw (same_columns_lem same, same_rows_lem same) n;
      }

pub written_well_formed : {s : List ℕ} (i j : ℕ) (v : Node) → WellFormed s → i < columns s → j < rows s → node_in v ≡ true → WellFormed (written s i j v)
written_well_formed {s} i j v w h k n = same_well_formed (written_front s i j v fits) w (written_length s i j v fits) each
  where
    fits : node_offset s i j + node_size ≤ length s
    fits = node_fits s (le_of_eq (sym w.whole)) i j h k

    each : (i' j' : ℕ) → i' < columns s → j' < rows s → InRange (node_at (written s i j v) i' j')
    each i' j' h' k' =
        elim (Dec.and (ℕ_discrete i' i) (ℕ_discrete j' j)) [
          | yes e ↦ rw (e.0, e.1, written_node s i j v fits n) ((node_in_range v).0 n)
          | no other ↦ rw (written_others s i j v fits i' j' h h' other) (w.ranges i' j' h' k')
        ]
