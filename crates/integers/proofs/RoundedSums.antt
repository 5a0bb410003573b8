-- The rounding of a sum is at most 1 from the sum of the roundings, by the bounds on the error of each rounding. Assumes nothing.
use mathlib.Core.Path.{subst}
use mathlib.Core.List.{[], ◌∷◌}
use Prim.Native.Nat.{ℕ, ◌+◌, ◌*◌, ◌<◌}
use lib.IntN.{ℤ, pos, neg_ℤ, ◌+ℤ◌, ◌-ℤ◌, ◌*ℤ◌}
use lib.Signed.{◌<ℤ◌}
use Rattle.integers.specs.Within.{◌within◌}
use Rattle.integers.specs.Round.{round}
use Rattle.integers.specs.RoundedSums.{RoundedSums}
use Rattle.integers.proofs.Polynomial.{Expr, #◌, ◌⊕◌, ◌⊗◌, ◌⊝◌, ⊖◌}
use Rattle.integers.proofs.Solve.{Claim, ◌≐◌, ◌≼◌, ◌≺◌, solve}
use Rattle.integers.proofs.Order.{below_next, <→<ℤ}
use Rattle.integers.proofs.Deduce.{◌·◌, ◌⊨◌, deduce}
use Rattle.integers.proofs.Bounds.{within_lower, within_upper, within_of_range, within-+, within--}
use Rattle.integers.proofs.Rounding.{rounding_laws}

-- −2 < q < 2, all times d
between : (q : ℤ) (d : ℕ) → (neg_ℤ (pos 2) *ℤ pos d) <ℤ (q *ℤ pos d) → (q *ℤ pos d) <ℤ (pos 2 *ℤ pos d) → q within 1
between q d h k = within_of_range 1
    (below_next (neg_ℤ (pos 1)) q d (deduce 2 (λ q d. (# 1 · (⊖ # 2 ⊗ d ≺ q ⊗ d)) ∷ [] ⊨ ⊖ # 1 ⊗ d ≺ (q ⊕ # 1) ⊗ d) tt q (pos d) h))
    (below_next q (pos 1) d k)

-- the errors of the two and of their sum, doubled and times d, are within d each: 2dq is within 3d
two : (m n : ℤ) (d : ℕ) → 0 < d → (round (m +ℤ n) d -ℤ (round m d +ℤ round n d)) within 1
two m n d p = between q (2 * d)
    (deduce 2 (λ q d. (# 1 · (⊖ (d ⊕ (d ⊕ d)) ≼ q ⊗ (# 2 ⊗ d))) ∷ (# 1 · (# 0 ≺ d)) ∷ [] ⊨ ⊖ # 2 ⊗ (# 2 ⊗ d) ≺ q ⊗ (# 2 ⊗ d)) tt
    q (pos d) (within_lower errors) (<→<ℤ p))
    (deduce 2 (λ q d. (# 1 · (q ⊗ (# 2 ⊗ d) ≼ d ⊕ (d ⊕ d))) ∷ (# 1 · (# 0 ≺ d)) ∷ [] ⊨ q ⊗ (# 2 ⊗ d) ≺ # 2 ⊗ (# 2 ⊗ d)) tt
    q (pos d) (within_upper errors) (<→<ℤ p))
  where
    q : ℤ
    q = round (m +ℤ n) d -ℤ (round m d +ℤ round n d)

    error : (k : ℤ) → (pos 2 *ℤ (round k d *ℤ pos d -ℤ k)) within d
    error k = rounding_laws.half_unit k d p

    errors : (q *ℤ pos (2 * d)) within (d + (d + d))
    errors = subst (λ x. x within (d + (d + d)))
        (solve 6 (λ r s t m n d. # 2 ⊗ (r ⊗ d ⊝ (m ⊕ n)) ⊝ (# 2 ⊗ (s ⊗ d ⊝ m) ⊕ # 2 ⊗ (t ⊗ d ⊝ n)) ≐ (r ⊝ (s ⊕ t)) ⊗ (# 2 ⊗ d)) tt
        (round (m +ℤ n) d) (round m d) (round n d) m n (pos d))
        (within-- (error (m +ℤ n)) (within-+ (error m) (error n)))

-- ---- three numbers: the errors lie above −1/2 and at most at 1/2

-- r is the rounding of n / d: what `down` and `below` say
abbrev down : Expr → Expr → Expr → Claim
down r n d = r ⊗ (# 2 ⊗ d) ≼ # 2 ⊗ n ⊕ d

abbrev below : Expr → Expr → Expr → Claim
below r n d = # 2 ⊗ n ⊕ d ≺ (r ⊕ # 1) ⊗ (# 2 ⊗ d)

three : (l m n : ℤ) (d : ℕ) → 0 < d → (round (l +ℤ m +ℤ n) d -ℤ (round l d +ℤ round m d +ℤ round n d)) within 1
three l m n d p = let laws = rounding_laws in let r = round (l +ℤ m +ℤ n) d in let s = round l d in let t = round m d in let u = round n d in
    between (r -ℤ (s +ℤ t +ℤ u)) (2 * d)
    (deduce 8 (λ r s t u l m n d. (# 1 · below r (l ⊕ m ⊕ n) d) ∷ (# 1 · down s l d) ∷ (# 1 · down t m d) ∷ (# 1 · down u n d) ∷ []
    ⊨ ⊖ # 2 ⊗ (# 2 ⊗ d) ≺ (r ⊝ (s ⊕ t ⊕ u)) ⊗ (# 2 ⊗ d)) tt r s t u l m n (pos d)
    (laws.below (l +ℤ m +ℤ n) d p) (laws.down l d p) (laws.down m d p) (laws.down n d p))
    (deduce 8 (λ r s t u l m n d. (# 1 · down r (l ⊕ m ⊕ n) d) ∷ (# 1 · below s l d) ∷ (# 1 · below t m d) ∷ (# 1 · below u n d) ∷ []
    ⊨ (r ⊝ (s ⊕ t ⊕ u)) ⊗ (# 2 ⊗ d) ≺ # 2 ⊗ (# 2 ⊗ d)) tt r s t u l m n (pos d)
    (laws.down (l +ℤ m +ℤ n) d p) (laws.below l d p) (laws.below m d p) (laws.below n d p))

pub rounded_sums : RoundedSums
rounded_sums = record { two = two; three = three }
