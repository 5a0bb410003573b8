-- `surface_bend_list::list_cell` meets its contract. Assumes nothing.
use Rattle.std.proofs.Common.{ℕ, ◌+◌, ◌≡◌, ◌∙◌, List, ℤ, length, sym, ap, Bor}
use Rattle.std.proofs.lemmas.List.Edits.{sets}
use Rattle.element_sibson.specs.Element.{corner_numbers}
use Rattle.element_cell.specs.Cell.{cell}
use Rattle.element_cell.specs.Corners.{corners, arrays}
use Rattle.element_cell.specs.declared.Pixel.{Pixel}
use Rattle.element_cell.proofs.Arrays.{held}
use Rattle.element_bends.specs.PieceBends.{cell_bends}
use Rattle.sheet_layout.specs.Format.{columns, rows, line_x, line_y}
use Rattle.surface_of_sheet.specs.Place.{cell_of}
use Rattle.surface_of_sheet.specs.Surface.{nodes_of}
use Rattle.surface_of_sheet.proofs.Cells.{numbers_within}
use Rattle.surface_places.specs.Found.{CellTouches, pixel_in}
use Rattle.surface_bend_list.specs.Rows.{bends_in}
use Rattle.surface_bend_list.proofs.Cells.{cell_is}
use Rattle.surface_bend_list.proofs.list_cell.Goals as goal

-- the corner numbers that are asked for, and what is listed of them at the pixel
module _ (s : List ℕ) {x y i j : ℕ} (across : CellTouches (line_x s) (columns s) i x) (down : CellTouches (line_y s) (rows s) j y) {n : List (List ℤ)} {p q : Pixel}
    (seen : q ≡ p) (is : p ≡ pixel_in s i j x y) (made : n ≡ arrays (corner_numbers (cell q.width q.height) (nodes_of s i j))) where
  numbers : corners n ≡ corner_numbers (cell_of s i j) (nodes_of s i j)
  unfolding pixel_in cell_of
  numbers = held _ made ∙ ap (λ (p : Pixel). corner_numbers (cell p.width p.height) (nodes_of s i j)) (seen ∙ is)

  listed : cell_bends (corners n) p ≡ bends_in s x y j i
  listed = (λ t. cell_bends (numbers t) (is t)) ∙ sym (cell_is s across down)

-- what is said of the lines is said of the sheet
pixel_of : {l s : Bor (List ℕ)} (x y i j : ℕ) {p : Pixel} → p ≡ pixel_in l.now i j x y → l ≡ s → p ≡ pixel_in s.now i j x y
pixel_of x y i j e l = e ∙ ap (λ (k : Bor (List ℕ)). pixel_in k.now i j x y) l

pub cell_bends-requires : goal.cell_bends-requires
cell_bends-requires c =
    let t = c.requires.touches in let is = pixel_of _ _ _ _ c.pixel_in-p.ensures c.of.ensures in let made = c.corner_numbers-n.ensures in (
      rw (numbers _ t.0 t.1 c.p.view_is is made) (numbers_within _ c.args.spot.sheet.accepted _ _ (record { column = t.0.has; row = t.1.has })),
      rw (listed _ t.0 t.1 c.p.view_is is made) c.requires.column_in_bounds,
    )

pub returns-clause-answer : goal.returns-clause-answer
returns-clause-answer c =
    let t = c.requires.touches in let is = pixel_of _ _ _ _ c.pixel_in-p.ensures c.of.ensures in
    c.cell_bends.ensures.answer ∙ ap (λ l. c.args.at + length l) (listed _ t.0 t.1 c.p.view_is is c.corner_numbers-n.ensures)

pub returns-clause-list : goal.returns-clause-list
returns-clause-list c =
    let t = c.requires.touches in let is = pixel_of _ _ _ _ c.pixel_in-p.ensures c.of.ensures in
    c.cell_bends.ensures.list ∙ ap (λ l. sets c.args.list.now c.args.at l) (listed _ t.0 t.1 c.p.view_is is c.corner_numbers-n.ensures)
