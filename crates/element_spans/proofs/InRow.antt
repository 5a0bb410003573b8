-- Pixels in the row of a pixel, at the offsets that the cell has. Assumes nothing.
use Prim.Native.Nat.{ℕ, ◌≤◌, ◌<◌}
use native.Mathlib.Omega.{arith}
use Rattle.element_cell.specs.Cell.{PixelInCell}
use Rattle.element_cell.specs.declared.Pixel.{Pixel}
use Rattle.element_spans.specs.Span.{to_right}
use Rattle.element_spans.specs.Needs.{FitsCell}

pub inside_at : {p : Pixel} → PixelInCell p → {a : ℕ} → a ≤ p.width → PixelInCell (record { a = a; b = p.b; width = p.width; height = p.height })
inside_at i l = record { width = i.width; height = i.height; across = l; down = i.down }

pub inside_right : (p : Pixel) {count k : ℕ} → FitsCell p count → k < count → PixelInCell (to_right p k)
inside_right p c l = inside_at c.inside (omega (arith, c.fits))
