-- The cubic that the code has for a pixel: it is the one on the pixel's cell and piece, and its readings are the pixel's. Assumes nothing.
use Rattle.std.proofs.Common.{◌≡◌, ℕ, List, ℤ, ◌∙◌, ap}
use mathlib.Core.Path.{subst⁻¹}
use Rattle.element_sibson.specs.Cubic.{Cell, Cubic, Point}
use Rattle.element_sibson.specs.Element.{CornerNumbers, corner_numbers, sibson, element}
use Rattle.element_cell.specs.Cell.{Pixel, cell}
use Rattle.element_cell.specs.Corners.{corners, arrays, largest, AllWithin}
use Rattle.element_cell.specs.Coefficients.{listed}
use Rattle.element_cell.specs.Pieces.{piece_of}
use Rattle.element_cell.proofs.Arrays.{held}
use Rattle.element_cell.proofs.Names.{piece_back}
use Rattle.element_readings.specs.Reading.{level_of, tilt_x_of, tilt_y_of, bend_xx_of, bend_xy_of, bend_yy_of}
use Rattle.element_turnings.proofs.Joined.{joined}
use Rattle.sheet_calls.specs.Refusals.{Accepted}
use Rattle.surface_of_sheet.specs.Place.{HasCell, cell_of, cell_at, point_at, place}
use Rattle.surface_of_sheet.specs.Surface.{nodes_of, set_of, cubic_at, level_at, tilt_x_at, tilt_y_at, bend_xx_at, bend_xy_at, bend_yy_at, level, tilt_x, tilt_y, bend_xx, bend_xy, bend_yy}
use Rattle.surface_of_sheet.proofs.Cells.{numbers_within}
use Rattle.surface_of_sheet.proofs.Places.{has_cell}
use Rattle.surface_places.specs.Found.{holding}
use Rattle.surface_places.specs.declared.Place.{Place}
use Rattle.surface_pixels.specs.Located.{located, on}
use Rattle.surface_pixels.specs.declared.LocatedCubic.{LocatedCubic}

-- the readings of c are those at pixel (x, y)
pub record Readings (s : List ℕ) (x y : ℕ) (c : LocatedCubic) : Type 0 where
  pub level : on level_of c ≡ level s x y
  pub tilt_x : on tilt_x_of c ≡ tilt_x s x y
  pub tilt_y : on tilt_y_of c ≡ tilt_y s x y
  pub bend_xx : on bend_xx_of c ≡ bend_xx s x y
  pub bend_xy : on bend_xy_of c ≡ bend_xy s x y
  pub bend_yy : on bend_yy_of c ≡ bend_yy s x y

module _ (s : List ℕ) (x y : ℕ) where
  -- the corner numbers of the cell that the code has
  abbrev numbers_by : ℕ → ℕ → Pixel → CornerNumbers
  numbers_by column row p = corner_numbers (cell p.width p.height) (nodes_of s column row)

  abbrev numbers_of : Place → CornerNumbers
  numbers_of g = numbers_by g.column g.row g.pixel

  module _ {c : LocatedCubic} (is : c ≡ located s (place s x y)) where
    same : (f : Cell → Cubic → Point → ℤ) → on f c ≡ f (cell_at s (place s x y)) (cubic_at s (place s x y)) (point_at s (place s x y))
    unfolding located holding cell_of set_of element
    same f =
        let n = numbers_of (holding s (place s x y)) in let k = (place s x y).piece in
        ap (on f) is ∙ ap (λ c. f (cell_at s (place s x y)) c (point_at s (place s x y))) (joined.back n k)

    pub readings_are : Readings s x y c
    unfolding level tilt_x tilt_y bend_xx bend_xy bend_yy level_at tilt_x_at tilt_y_at bend_xx_at bend_xy_at bend_yy_at
    readings_are = record {
      level = same level_of;
      tilt_x = same tilt_x_of;
      tilt_y = same tilt_y_of;
      bend_xx = same bend_xx_of;
      bend_xy = same bend_xy_of;
      bend_yy = same bend_yy_of;
    }

  -- ---- from the place that the code has found

  module _ {f : Place} (found : f ≡ holding s (place s x y)) where
    pub found_cell : Accepted s → HasCell s f.column f.row
    unfolding place holding
    found_cell accepted = subst⁻¹ (λ (g : Place). HasCell s g.column g.row) found (has_cell s accepted x y)

    module _ {p : Pixel} (pixel : p ≡ f.pixel) {n : List (List ℤ)} (corner : n ≡ arrays (numbers_by f.column f.row p)) where
      numbers_are : corners n ≡ numbers_of (holding s (place s x y))
      numbers_are = held _ corner ∙ ap (numbers_by f.column f.row) pixel ∙ ap numbers_of found

      pub numbers_in : Accepted s → AllWithin largest (corners n)
      unfolding place holding cell_of
      numbers_in accepted = subst⁻¹ (AllWithin largest) numbers_are (numbers_within s accepted _ _ (has_cell s accepted x y))

      pub located_is : {k : List ℤ} → k ≡ listed (sibson (corners n) (piece_of f.piece)) → record { coefficients = k; pixel = f.pixel } ≡ located s (place s x y)
      unfolding located holding place set_of element cell_of
      located_is e =
          let piece = ap (λ (g : Place). piece_of g.piece) found ∙ piece_back (place s x y).piece in
          let cubic = e ∙ (λ t. listed (sibson (numbers_are t) (piece t))) in
          λ t. record { coefficients = cubic t; pixel = (found t).pixel }
