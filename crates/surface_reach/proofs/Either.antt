-- Every pixel lies beside the cells that touch the node or within its reach, and never both. Assumes nothing.
use Prim.Native.Nat.{ℕ, ◌<◌}
use mathlib.Core.Logic.{◌↔◌, ◌⊎◌, inl, inr}
use mathlib.Core.List.{List}
use Rattle.sheet_layout.specs.Format.{columns, rows, line_x, line_y}
use Rattle.sheet_calls.specs.Refusals.{Accepted}
use Rattle.sheet_calls.specs.WellFormed.{Rising}
use Rattle.sheet_reach.specs.Reach.{outermost}
use Rattle.surface_of_sheet.proofs.Cells.{sound, x_rising, y_rising}
use Rattle.surface_reach.specs.Nudged.{FarLine, OnFarSide, Beside, WithinReach}
use Rattle.surface_reach.proofs.Axis.{after_left, before_right, far_outside, Held, strictly_held, held?, far?}

module _ (s : List ℕ) (i j : ℕ) (accepted : Accepted s) (column : i < columns s) (row : j < rows s) (x y : ℕ) where
  abbrev rx : Rising (line_x s) (columns s)
  rx = x_rising s accepted

  abbrev ry : Rising (line_y s) (rows s)
  ry = y_rising s accepted

  not_both : Beside s i j x y → ¬ WithinReach s i j x y
  unfolding outermost
  not_both (inl apart) w =
      let a = strictly_held rx i x (sound s accepted).few_columns column (w.left, w.right) in
      let b = strictly_held ry j y (sound s accepted).few_rows row (w.top, w.bottom) in
      apart.cells a.cell b.cell (record { column = a.there; row = b.there }) (record { column = a.at; row = b.at })
      (record { left = a.from; right = a.to; top = b.from; bottom = b.to })
  not_both (inr far) w = elim far.side [
    | inl f ↦ far_outside rx far.has.column f (w.left, w.right)
    | inr f ↦ far_outside ry far.has.row f (w.top, w.bottom)
  ]

  side : (a : Held rx i x) (b : Held ry j y) → FarLine (line_x s) a.cell i x ⊎ FarLine (line_y s) b.cell j y → OnFarSide s i j x y
  side a b f = record {
    column = a.cell;
    row = b.cell;
    has = record { column = a.there; row = b.there };
    touches = record { column = a.at; row = b.at };
    in_cell = record { left = a.from; right = a.to; top = b.from; bottom = b.to };
    side = f;
  }

  pub one_of_both : Beside s i j x y ⊎ WithinReach s i j x y
  unfolding outermost
  one_of_both = elim (held? rx i x) [
    | inr none ↦ inl (inl (record { cells = λ a b has t h. none a has.column t.column h.left h.right }))
    | inl a ↦ elim (held? ry j y) [
      | inr none ↦ inl (inl (record { cells = λ c b has t h. none b has.row t.row h.top h.bottom }))
      | inl b ↦ elim (far? rx a.cell i x a.at) [
        | inl f ↦ inl (inr (side a b (inl f)))
        | inr off-x ↦ elim (far? ry b.cell j y b.at) [
          | inl f ↦ inl (inr (side a b (inr f)))
          | inr off-y ↦ inr (record {
            left = after_left rx a.there a.from a.to off-x a.at;
            top = after_left ry b.there b.from b.to off-y b.at;
            right = before_right rx a.there a.from a.to off-x a.at;
            bottom = before_right ry b.there b.from b.to off-y b.at;
          })
        ]
      ]
    ]
  ]

  pub either : Beside s i j x y ↔ (¬ WithinReach s i j x y)
  either = (not_both, λ outside. elim one_of_both [ inl w ↦ w | inr w ↦ absurd (outside w) ])
