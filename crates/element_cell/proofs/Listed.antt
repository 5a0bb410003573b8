-- Doubled coefficients: those of a piece give the piece, and each is within the size of its list. Assumes nothing.
use mathlib.Core.Path.{◌≡◌, refl}
use mathlib.Core.List.{List, [], ◌∷◌}
use Prim.Native.Nat.{ℕ, zero, suc, ◌*◌, ◌≤◌, zero-le}
use native.Mathlib.Nat.{le_trans}
use native.Mathlib.Omega.{arith}
use lib.IntN.{ℤ, pos, nat_abs}
use lib.ListN.{get_or}
use Rattle.integers.specs.Within.{◌within◌}
use Rattle.integers.proofs.Bounds.{is_within}
use Rattle.element_sibson.specs.Cubic.{Power, one, r¹, s¹, r², rs, s², r³, r²s, rs², s³}
use Rattle.element_sibson.specs.Piece.{Piece, top, right, bottom, left}
use Rattle.element_sibson.specs.Element.{CornerNumbers, column, halved, transposed, flipped, mirrored, on_top, on_left, sibson}
use Rattle.element_cell.specs.Corners.{largest}
use Rattle.element_cell.specs.Coefficients.{listed, size, halves, Sized}

pub listed_back : (n : CornerNumbers) (k : Piece) → halves (listed (sibson n k)) ≡ sibson n k
unfolding halves listed halved transposed flipped mirrored on_top on_left sibson
listed_back n top = refl
listed_back n right = refl
listed_back n bottom = refl
listed_back n left = refl

pub in_size : (zs : List ℤ) (k : ℕ) → nat_abs (get_or zs k (pos 0)) ≤ size zs
unfolding size
in_size [] k = zero-le
in_size (z ∷ zs) zero = omega arith
in_size (z ∷ zs) (suc k) = omega (arith, in_size zs k)

-- at a literal k the number is the list's own
pub coefficient_within : {zs : List ℤ} → Sized zs → (k : ℕ) → get_or (listed (halves zs)) k (pos 0) within (256 * largest)
coefficient_within {zs} h k = is_within (get_or (listed (halves zs)) k (pos 0)) (le_trans (in_size (listed (halves zs)) k) h.sum)

pub sized_within : {zs : List ℤ} → Sized zs → (p : Power) → get_or zs (column p) (pos 0) within (256 * largest)
unfolding listed halves
sized_within h one = coefficient_within h 0
sized_within h r¹ = coefficient_within h 1
sized_within h s¹ = coefficient_within h 2
sized_within h r² = coefficient_within h 3
sized_within h rs = coefficient_within h 4
sized_within h s² = coefficient_within h 5
sized_within h r³ = coefficient_within h 6
sized_within h r²s = coefficient_within h 7
sized_within h rs² = coefficient_within h 8
sized_within h s³ = coefficient_within h 9
