-- The weights of all four pieces, written out: they give the pieces, and their absolute values add up to at most 256. Assumes nothing.
use mathlib.Core.Path.{◌≡◌, refl, sym, ◌∙◌, ap, subst}
use mathlib.Core.Bool.{Bool}
use mathlib.Core.List.{List, [], ◌∷◌, map}
use Prim.Native.Nat.{ℕ, ◌+◌, ◌*◌, ◌≤◌, zero-le}
use native.Mathlib.Nat.{mul-le-mul_right}
use native.Mathlib.Omega.{arith}
use lib.Dec.{T, leb, leb→le}
use lib.ListN.{get_or}
use lib.IntN.{ℤ, pos, ◌+ℤ◌, ◌*ℤ◌}
use Rattle.integers.specs.Within.{◌within◌}
use Rattle.integers.proofs.Polynomial.{Expr, eval}
use Rattle.integers.proofs.Solve.{same, same_sound}
use Rattle.integers.proofs.Bounds.{within_self, within-+, within-*}
use Rattle.element_sibson.specs.Fraction.{positive}
use Rattle.element_sibson.specs.Cubic.{Cubic, Power, one, r¹, s¹, r², rs, s², r³, r²s, rs², s³, coefficient, cubic_of}
use Rattle.element_sibson.specs.Piece.{Piece, top, right, bottom, left, left_top, right_top, left_bottom, right_bottom}
use Rattle.element_sibson.specs.Element.{CornerNumbers, in_order, column, weights, weighed, halved, transposed, flipped, mirrored, swap, negate_x, negate_y, exchanged, top_down, left_right, on_top, on_left, sibson}
use Rattle.element_sibson.proofs.Finite.{every_piece_lem}
use Rattle.element_sibson.proofs.Quote.{coefficientₑ}
use Rattle.element_sibson.proofs.QuoteElement.{weighedₑ, numbersₑ, elementₑ, sibson_is}
use Rattle.element_cell.specs.Corners.{AllWithin}
use Rattle.element_cell.specs.Coefficients.{listed, size}
use Rattle.element_readings.proofs.Limits.{weights_limit}
use Rattle.element_readings.specs.WeightSums.{alone, unit_height, unit_x, unit_y, written, sizes, WeightSums}

-- ---- what is written out gives the piece

-- four numbers that are not used, then the twelve
abbrev numbers : CornerNumbers → List ℤ
numbers n = pos 0 ∷ pos 0 ∷ pos 0 ∷ pos 0 ∷ in_order n

weighed_is : (ρ : List ℤ) (table : List (List ℤ)) (es : List Expr) (p : Power) → weighed table (map (eval ρ) es) p ≡ eval ρ (weighedₑ table es p)
unfolding weighed
weighed_is ρ [] es p = refl
weighed_is ρ (row ∷ rows) [] p = refl
weighed_is ρ (row ∷ rows) (e ∷ es) p = ap (λ x. get_or row (column p) (pos 0) *ℤ eval ρ e +ℤ x) (weighed_is ρ rows es p)

abbrev writtenₑ : Piece → Power → Expr
unfolding in_order
writtenₑ k p = weighedₑ (written k) (in_order numbersₑ) p

abbrev agrees : Power → Piece → Bool
agrees p k = same (writtenₑ k p) (coefficientₑ (elementₑ k) p)

matches : (p : Power) (k : Piece) → T (agrees p k)
unfolding written listed alone in_order weights weighed halved transposed flipped mirrored swap negate_x negate_y exchanged top_down left_right on_top on_left sibson
matches one = every_piece_lem (agrees one) tt
matches r¹ = every_piece_lem (agrees r¹) tt
matches s¹ = every_piece_lem (agrees s¹) tt
matches r² = every_piece_lem (agrees r²) tt
matches rs = every_piece_lem (agrees rs) tt
matches s² = every_piece_lem (agrees s²) tt
matches r³ = every_piece_lem (agrees r³) tt
matches r²s = every_piece_lem (agrees r²s) tt
matches rs² = every_piece_lem (agrees rs²) tt
matches s³ = every_piece_lem (agrees s³) tt

pub gives : (k : Piece) (n : CornerNumbers) → halved (written k) n ≡ sibson n k
unfolding halved in_order
gives k n = (λ i. cubic_of (λ p. is p i) (positive 2 tt)) ∙ sym (sibson_is (pos 0) (pos 0) (pos 0) (pos 0) n k)
  where
    is : (p : Power) → weighed (written k) (in_order n) p ≡ eval (numbers n) (coefficientₑ (elementₑ k) p)
    is p = weighed_is (numbers n) (written k) (in_order numbersₑ) p ∙ same_sound (writtenₑ k p) (coefficientₑ (elementₑ k) p) (matches p k) (numbers n)

-- ---- their sums

totals : (sizes (written top) ≡ 108) × (sizes (written right) ≡ 248) × (sizes (written bottom) ≡ 248) × (sizes (written left) ≡ 108)
unfolding size sizes written listed alone in_order weights weighed halved transposed flipped mirrored swap negate_x negate_y exchanged top_down left_right on_top on_left sibson
totals = (refl, refl, refl, refl)

small : (k : Piece) → T (leb (sizes (written k)) weights_limit)
unfolding size sizes written listed alone in_order weights weighed halved transposed flipped mirrored swap negate_x negate_y exchanged top_down left_right on_top on_left sibson
small = every_piece_lem (λ k. leb (sizes (written k)) weights_limit) tt

sums : (k : Piece) → sizes (written k) ≤ weights_limit
sums k = leb→le (sizes (written k)) weights_limit (small k)

-- ---- the coefficients

abbrev powers : List Power
powers = one ∷ r¹ ∷ s¹ ∷ r² ∷ rs ∷ s² ∷ r³ ∷ r²s ∷ rs² ∷ s³ ∷ []

-- Σ |fₚ z + gₚ| ≤ N Σ |fₚ| + Σ |gₚ|
added : (f g : Power → ℤ) {z : ℤ} {N : ℕ} → z within N → (ps : List Power) → size (map (λ p. f p *ℤ z +ℤ g p) ps) ≤ size (map f ps) * N + size (map g ps)
unfolding size
added f g h [] = zero-le
added f g h (p ∷ ps) = omega (arith, added f g h ps, (within-+ (within-* (within_self (f p)) h) (within_self (g p))).bound)

-- numbers within N
abbrev pub EachWithin : ℕ → List ℤ → Type 0
EachWithin N [] = Unit {0}
EachWithin N (z ∷ zs) = z within N × EachWithin N zs

pub each_within : {N : ℕ} {n : CornerNumbers} → AllWithin N n → EachWithin N (in_order n)
unfolding in_order
each_within h = (
  h.heights left_top,
  (
    h.x_slopes left_top,
    (
      h.y_slopes left_top,
      (
        h.heights right_top,
        (
          h.x_slopes right_top,
          (
            h.y_slopes right_top,
            (h.heights left_bottom, (h.x_slopes left_bottom, (h.y_slopes left_bottom, (h.heights right_bottom, (h.x_slopes right_bottom, (h.y_slopes right_bottom, tt)))))),
          ),
        ),
      ),
    ),
  ),
)

-- Σₚ |Σⱼ wⱼₚ nⱼ| ≤ N Σⱼₚ |wⱼₚ|
weighed_size : (N : ℕ) (fs : List Cubic) (ns : List ℤ) → EachWithin N ns → size (map (λ p. weighed (map listed fs) ns p) powers) ≤ sizes (map listed fs) * N
unfolding size sizes listed weighed
weighed_size N [] ns h = zero-le
weighed_size N (f ∷ fs) [] h = zero-le
weighed_size N (f ∷ fs) (n ∷ ns) h = omega (arith, added (coefficient f) (λ p. weighed (map listed fs) ns p) h.0 powers, weighed_size N fs ns h.1)

-- the twelve corner numbers that are 1 at one place and 0 elsewhere, and the pieces that they give
abbrev units : List CornerNumbers
units =
    alone left_top unit_height ∷ alone left_top unit_x ∷ alone left_top unit_y ∷ alone right_top unit_height ∷ alone right_top unit_x ∷ alone right_top unit_y ∷
    alone left_bottom unit_height ∷ alone left_bottom unit_x ∷ alone left_bottom unit_y ∷ alone right_bottom unit_height ∷ alone right_bottom unit_x ∷ alone right_bottom unit_y ∷ []

abbrev pub parts : Piece → List Cubic
parts k = map (λ n. sibson n k) units

halved_size : (n : CornerNumbers) (N : ℕ) → AllWithin N n → (k : Piece) → size (listed (halved (written k) n)) ≤ sizes (written k) * N
unfolding written listed halved
halved_size n N h k = weighed_size N (parts k) (in_order n) (each_within h)

pub coefficients : (n : CornerNumbers) (N : ℕ) → AllWithin N n → (k : Piece) → size (listed (sibson n k)) ≤ 256 * N
coefficients n N h k = subst (λ f. size (listed f) ≤ 256 * N) (gives k n) (omega (arith, halved_size n N h k, mul-le-mul_right N (sums k)))

pub weight_sums : WeightSums
weight_sums = record { gives = gives; totals = totals; sums = sums; coefficients = coefficients }
