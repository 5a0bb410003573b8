-- The lines are the outermost ones of the cells that touch the node. Assumes nothing.
use Prim.Native.Nat.{ℕ, suc, ◌<◌}
use mathlib.Core.Path.{refl, sym, ap}
use mathlib.Core.Logic.{◌↔◌}
use mathlib.Core.List.{List}
use Rattle.sheet_layout.specs.Format.{columns, rows, line_x, line_y}
use Rattle.sheet_layout.specs.Neighbours.{previous}
use Rattle.sheet_calls.specs.Refusals.{Accepted}
use Rattle.sheet_calls.proofs.WellFormed.{accepted_laws}
use Rattle.sheet_reach.specs.Reach.{TouchesNode, outermost, WithinLines}
use Rattle.sheet_reach.specs.ReachLaws.{Attained}
use Rattle.sheet_reach.proofs.Axis.{touching, first_cell, last_cell, last_cell_lem}

module _ (s : List ℕ) (i j : ℕ) where
  pub between : (a b : ℕ) → Accepted s → i < columns s → j < rows s → suc a < columns s → suc b < rows s →
      TouchesNode a b i j ↔ WithinLines s i j a b
  unfolding outermost
  between a b accepted l k m o =
      let w = accepted_laws.sound s accepted in
      let x = touching w.rising_x i a l m in
      let y = touching w.rising_y j b k o in (
        λ t. let (left, right) = x.0 t.column in let (top, bottom) = y.0 t.row in
            record { left = left; top = top; right = right; bottom = bottom },
        λ h. record { column = x.1 (h.left, h.right); row = y.1 (h.top, h.bottom) },
      )

  pub attained : Accepted s → i < columns s → j < rows s → Attained s i j
  unfolding outermost
  attained accepted l k =
      let w = accepted_laws.sound s accepted in
      let first_x = first_cell (columns s) i w.few_columns l in
      let first_y = first_cell (rows s) j w.few_rows k in
      let last_x = last_cell_lem (columns s) i w.few_columns l in
      let last_y = last_cell_lem (rows s) j w.few_rows k in
      record {
        first_column = previous i;
        first_row = previous j;
        last_column = last_cell (columns s) i;
        last_row = last_cell (rows s) j;
        first = record { column = first_x.0; row = first_y.0; touches = record { column = first_x.1; row = first_y.1 } };
        last = record { column = last_x.1; row = last_y.1; touches = record { column = last_x.2; row = last_y.2 } };
        left = refl;
        top = refl;
        right = sym (ap (line_x s) last_x.0);
        bottom = sym (ap (line_y s) last_y.0);
      }
