-- Sheets on the same lines: those with the same bytes before the nodes are; it goes both ways, and from one sheet on to the next. Assumes nothing.
use mathlib.Core.Path.{refl, sym, ◌∙◌}
use mathlib.Core.List.{List}
use Prim.Native.Nat.{ℕ}
use Rattle.sheet_layout.specs.SameLines.{SameLines}
use Rattle.sheet_layout.proofs.SameFront.{SameFront, same_columns_lem, same_rows_lem, same_line_x, same_line_y}

pub front_lines : {s t : List ℕ} → SameFront s t → SameLines s t
front_lines same = record { same_columns = same_columns_lem same; same_rows = same_rows_lem same; same_x = same_line_x same; same_y = same_line_y same }

pub same_refl : {a : List ℕ} → SameLines a a
same_refl = record { same_columns = refl; same_rows = refl; same_x = λ k h. refl; same_y = λ k h. refl }

pub same_sym : {a b : List ℕ} → SameLines a b → SameLines b a
same_sym l = record {
  same_columns = sym l.same_columns;
  same_rows = sym l.same_rows;
  same_x = λ k h. sym (l.same_x k (rw l.same_columns at h));
  same_y = λ k h. sym (l.same_y k (rw l.same_rows at h));
}

pub same_trans : {a b c : List ℕ} → SameLines a b → SameLines b c → SameLines a c
same_trans l m = record {
  same_columns = m.same_columns ∙ l.same_columns;
  same_rows = m.same_rows ∙ l.same_rows;
  same_x = λ k h. m.same_x k (rw l.same_columns h) ∙ l.same_x k h;
  same_y = λ k h. m.same_y k (rw l.same_rows h) ∙ l.same_y k h;
}
