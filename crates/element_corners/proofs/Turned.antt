-- Turned corner numbers keep the bound. Assumes nothing.
use Prim.Native.Nat.{ℕ}
use lib.IntN.{ℤ}
use Rattle.integers.specs.Within.{◌within◌}
use Rattle.integers.proofs.Bounds.{within_neg}
use Rattle.element_sibson.specs.Cubic.{Jet}
use Rattle.element_sibson.specs.Piece.{Corner, left_top, right_top, left_bottom, right_bottom}
use Rattle.element_sibson.specs.Element.{CornerNumbers, swap, negate_x, negate_y, exchanged, top_down, left_right}
use Rattle.element_cell.specs.Corners.{AllWithin}

-- the three numbers of a corner
abbrev JetWithin : ℕ → Jet ℤ → Type 0
JetWithin N j = (j.height within N) × (j.x_slope within N) × (j.y_slope within N)

all_within : {N : ℕ} {n : CornerNumbers} → ((c : Corner) → JetWithin N (n c)) → AllWithin N n
all_within h = record { heights = λ c. (h c).0; x_slopes = λ c. (h c).1; y_slopes = λ c. (h c).2 }

module _ {N : ℕ} {n : CornerNumbers} (h : AllWithin N n) where
  swapped : (c : Corner) → JetWithin N (swap (n c))
  unfolding swap
  swapped c = (h.heights c, h.y_slopes c, h.x_slopes c)

  negated_x : (c : Corner) → JetWithin N (negate_x (n c))
  unfolding negate_x
  negated_x c = (h.heights c, within_neg (h.x_slopes c), h.y_slopes c)

  negated_y : (c : Corner) → JetWithin N (negate_y (n c))
  unfolding negate_y
  negated_y c = (h.heights c, h.x_slopes c, within_neg (h.y_slopes c))

  pub exchanged_within : AllWithin N (exchanged n)
  unfolding exchanged
  exchanged_within = all_within at
    where
      at : (c : Corner) → JetWithin N (exchanged n c)
      at left_top = swapped left_top
      at right_top = swapped left_bottom
      at left_bottom = swapped right_top
      at right_bottom = swapped right_bottom

  pub top_down_within : AllWithin N (top_down n)
  unfolding top_down
  top_down_within = all_within at
    where
      at : (c : Corner) → JetWithin N (top_down n c)
      at left_top = negated_y left_bottom
      at right_top = negated_y right_bottom
      at left_bottom = negated_y left_top
      at right_bottom = negated_y right_top

  pub left_right_within : AllWithin N (left_right n)
  unfolding left_right
  left_right_within = all_within at
    where
      at : (c : Corner) → JetWithin N (left_right n c)
      at left_top = negated_x right_top
      at right_top = negated_x left_top
      at left_bottom = negated_x right_bottom
      at right_bottom = negated_x left_bottom
