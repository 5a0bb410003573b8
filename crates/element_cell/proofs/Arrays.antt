-- Corner numbers in arrays: what is written is read back; and those of nodes are within the bound. Assumes nothing.
use mathlib.Core.Path.{◌≡◌, refl, ◌∙◌, ap, subst⁻¹}
use mathlib.Core.List.{List}
use Prim.Native.Nat.{ℕ}
use lib.IntN.{ℤ, pos}
use Rattle.integers.specs.Within.{◌within◌}
use Rattle.integers.proofs.Bounds.{within-*}
use Rattle.element_sibson.specs.Piece.{Corner, left_top, right_top, left_bottom, right_bottom}
use Rattle.element_sibson.specs.Element.{Nodes, CornerNumbers, corner_numbers}
use Rattle.element_cell.specs.Cell.{Side, side, cell}
use Rattle.element_cell.specs.Corners.{jet_of, corners, three, arrays, largest, AllWithin, Measured}
use Rattle.element_cell.proofs.Sides.{length_within, side_is}

back : (n : CornerNumbers) (c : Corner) → corners (arrays n) c ≡ n c
unfolding corners arrays jet_of three
back n left_top = refl
back n right_top = refl
back n left_bottom = refl
back n right_bottom = refl

-- what arrays hold that a contract gives
pub held : {r : List (List ℤ)} (n : CornerNumbers) → r ≡ arrays n → corners r ≡ n
held n e = ap corners e ∙ (λ i c. back n c i)

-- 64 pixels times a slope of 4,095
pub measured_within : {w h : ℕ} {m : Nodes} → Measured m → Side w → Side h → AllWithin largest (corner_numbers (cell w h) m)
unfolding corner_numbers cell
measured_within {w} {h} {m} k u v = record { heights = k.heights; x_slopes = λ c. within-* (sided u) (k.x_slopes c); y_slopes = λ c. within-* (sided v) (k.y_slopes c) }
  where
    sided : {l : ℕ} → Side l → pos (side l).number within 64
    sided s = subst⁻¹ (λ (l : ℕ). pos l within 64) (side_is s) (length_within s.most)
