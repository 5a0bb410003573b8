-- Bounds of lists of operands, of a derivative's coefficients, and of polynomials of degree 1 and 2 at a pixel. Assumes nothing.
use Rattle.std.proofs.Common.{◌≡◌, ◌*◌, ◌^◌, ◌≤◌, ℕ, zero, suc, List, [], ◌∷◌, map, get_or, max, ℤ, pos, refl, arith, w64}
use lib.Dec.{lit≤}
use Rattle.integers.specs.Within.{◌within◌}
use Rattle.integers.proofs.Bounds.{is_within, within_mono, within-+, within-*}
use Rattle.integers.proofs.Operand.{Operand, known, literal, ◌⊠◌, read_within}
use Rattle.element_sibson.specs.Cubic.{Power}
use Rattle.element_cell.specs.Corners.{largest}
use Rattle.element_cell.specs.Coefficients.{Sized}
use Rattle.element_cell.proofs.Listed.{sized_within}
use Rattle.element_evaluation.specs.Needs.{EachWithin}
use Rattle.element_evaluation.specs.LowDegree.{linear_at, quadratic_at}

-- ---- lists

none : {N : ℕ} → EachWithin N []
none = record { each = λ i. is_within (pos 0) (omega arith) }

infixr 5 ◌and◌
◌and◌ : {N : ℕ} {z : ℤ} {zs : List ℤ} → z within N → EachWithin N zs → EachWithin N (z ∷ zs)
◌and◌ {N} {z} {zs} h k = record { each = at }
  where
    at : (i : ℕ) → get_or (z ∷ zs) i (pos 0) within N
    at zero = h
    at (suc i) = k.each i

-- ---- lists of operands

-- what is read of them is what they are
pub all_read : (xs : List Operand) → map (λ x. x.read) xs ≡ map (λ x. x.number) xs
all_read [] = refl
all_read (x ∷ xs) = λ i. x.reads i ∷ all_read xs i

-- the largest of their bounds
abbrev pub most : List Operand → ℕ
most [] = 0
most (x ∷ xs) = max x.bound (most xs)

pub each_read : {N : ℕ} (xs : List Operand) → most xs ≤ N → EachWithin N (map (λ x. x.read) xs)
each_read [] h = none
each_read (x ∷ xs) h = within_mono (read_within x) (omega (arith, h)) and each_read xs (omega (arith, h))

-- ---- derivatives

abbrev pub S : ℕ
S = 256 * largest

-- the coefficient of a power, as the machine reads it, and its double and treble
abbrev pub k_at : {k : List ℤ} → Sized k → Power → Operand
k_at h p = known w64 (sized_within h p) tt

abbrev pub double : {k : List ℤ} → Sized k → Power → Operand
double h p = literal (pos 2) ⊠ k_at h p

abbrev pub treble : {k : List ℤ} → Sized k → Power → Operand
treble h p = literal (pos 3) ⊠ k_at h p

-- ---- at a pixel

pub linear_within : {c z : List ℤ} → EachWithin (6 * S) c → EachWithin 4096 z → linear_at c z within (2 ^ 56)
unfolding linear_at
linear_within h k = within_mono (within-+ (within-+ (within-* (h.each 0) (k.each 0)) (within-* (h.each 1) (k.each 1))) (within-* (h.each 2) (k.each 2))) (lit≤ tt)

pub quadratic_within : {c z : List ℤ} → EachWithin (3 * S) c → EachWithin 4096 z → quadratic_at c z within (2 ^ 62)
unfolding quadratic_at linear_at
quadratic_within h k =
    within_mono
    (within-+ (within-* (k.each 0) (within-+ (within-+ (within-* (h.each 0) (k.each 0)) (within-* (h.each 1) (k.each 1))) (within-* (h.each 2) (k.each 2))))
    (within-+ (within-* (k.each 1) (within-+ (within-* (h.each 3) (k.each 1)) (within-* (h.each 4) (k.each 2)))) (within-* (h.each 5) (within-* (k.each 2) (k.each 2)))))
    (lit≤ tt)
