-- A piece's form is the sum of twelve, each times its corner number: those of the piece where that number is 1 and the others are 0. Assumes nothing.
use mathlib.Core.Path.{◌≡◌, sym, ◌∙◌, ap, subst}
use mathlib.Core.List.{List, [], ◌∷◌, map}
use Prim.Native.Nat.{ℕ, ◌*◌, zero-le}
use native.Mathlib.Omega.{arith}
use lib.IntN.{ℤ, pos, ◌+ℤ◌, ◌*ℤ◌}
use Rattle.integers.specs.Within.{◌within◌}
use Rattle.integers.proofs.Polynomial.{var, #◌, ◌⊕◌, ◌⊗◌}
use Rattle.integers.proofs.Solve.{◌≐◌, solve, same_sound}
use Rattle.integers.proofs.Bounds.{is_within, within_self, within_mono, within-+, within-*}
use Rattle.element_sibson.specs.Fraction.{Positive, positive, ℚ, ◌≈◌, ◌*⁺◌}
use Rattle.element_sibson.specs.Cubic.{Point, Cubic, Power, coefficient, cubic_of, value}
use Rattle.element_sibson.specs.Piece.{Piece}
use Rattle.element_sibson.specs.Element.{CornerNumbers, in_order, weighed, halved, sibson}
use Rattle.element_sibson.proofs.Jets.{◌≈ₚ◌}
use Rattle.element_sibson.proofs.Quote.{cubicₑ, cubic_ofₑ, coefficientₑ, cubic}
use Rattle.element_cell.specs.Coefficients.{listed, size}
use Rattle.element_readings.specs.WeightSums.{written}
use Rattle.element_readings.proofs.WeightSums.{gives, parts, EachWithin}
use Rattle.element_readings.proofs.Form.{form, formₑ, over, cube, value_form}

abbrev dot : List ℤ → List ℤ → ℤ
dot [] ns = pos 0
dot (w ∷ ws) [] = pos 0
dot (w ∷ ws) (n ∷ ns) = w *ℤ n +ℤ dot ws ns

-- ---- forms add up

abbrev two : Positive
two = positive 2 tt

-- the form of f z + g
form_plus : (f : Cubic) (z : ℤ) (g : Power → ℤ) (A B Q : ℤ) →
    form (cubic_of (λ p. coefficient f p *ℤ z +ℤ g p) two) A B Q ≡ form f A B Q *ℤ z +ℤ form (cubic_of g two) A B Q
unfolding form
form_plus f z g A B Q = let A' = var 22 in let B' = var 23 in let Q' = var 24 in
    same_sound (formₑ (cubic_ofₑ (λ p. coefficientₑ (cubicₑ 0) p ⊗ var 25 ⊕ coefficientₑ (cubicₑ 11) p) (# 2)) A' B' Q')
    (formₑ (cubicₑ 0) A' B' Q' ⊗ var 25 ⊕ formₑ (cubicₑ 11) A' B' Q') tt (cubic f (cubic (cubic_of g two) (A ∷ B ∷ Q ∷ z ∷ [])))

form_none : (A B Q : ℤ) → form (cubic_of (λ p. pos 0) two) A B Q ≡ pos 0
unfolding form
form_none = solve 3 (λ A B Q. formₑ (cubic_ofₑ (λ p. # 0) (# 2)) A B Q ≐ # 0) tt

form_weighed : (fs : List Cubic) (ns : List ℤ) (A B Q : ℤ) → form (cubic_of (λ p. weighed (map listed fs) ns p) two) A B Q ≡ dot (map (λ f. form f A B Q) fs) ns
unfolding listed weighed
form_weighed [] ns A B Q = form_none A B Q
form_weighed (f ∷ fs) [] A B Q = form_none A B Q
form_weighed (f ∷ fs) (n ∷ ns) A B Q = form_plus f n (λ p. weighed (map listed fs) ns p) A B Q ∙ ap (λ x. form f A B Q *ℤ n +ℤ x) (form_weighed fs ns A B Q)

pub form_sibson : (n : CornerNumbers) (k : Piece) (A B Q : ℤ) → form (sibson n k) A B Q ≡ dot (map (λ f. form f A B Q) (parts k)) (in_order n)
unfolding halved written
form_sibson n k A B Q = ap (λ f. form f A B Q) (sym (gives k n)) ∙ form_weighed (parts k) (in_order n) A B Q

pub divisor_is : (n : CornerNumbers) (k : Piece) → (sibson n k).divisor ≡ two
unfolding halved
divisor_is n k = ap (λ f. f.divisor) (sym (gives k n))

-- z / 2Q³
abbrev pub over_cubes : ℤ → Positive → ℚ
over_cubes z Q = record { numerator = z; denominator = two *⁺ cube Q }

pub value_sibson : (n : CornerNumbers) (k : Piece) {P : Point} {A B : ℤ} {Q : Positive} → P ≈ₚ over A B Q →
    value (sibson n k) P ≈ over_cubes (form (sibson n k) A B (pos Q.number)) Q
value_sibson n k {P} {A} {B} {Q} e = subst (λ d. value (sibson n k) P ≈ record { numerator = form (sibson n k) A B (pos Q.number); denominator = d *⁺ cube Q })
    (divisor_is n k) (value_form (sibson n k) e)

-- ---- their sum is bounded, and linear in the corner numbers

pub dot_within : (N : ℕ) (ws ns : List ℤ) → EachWithin N ns → dot ws ns within (size ws * N)
unfolding size
dot_within N [] ns h = is_within (pos 0) zero-le
dot_within N (w ∷ ws) [] h = is_within (pos 0) zero-le
dot_within N (w ∷ ws) (n ∷ ns) h = within_mono (within-+ (within-* (within_self w) h.0) (dot_within N ws ns h.1)) (omega arith)

pub dot_plus : (z : ℤ) (ws : List ℤ) (xs : List (ℤ × ℤ)) → dot ws (map (λ x. x.0 +ℤ x.1 *ℤ z) xs) ≡ dot ws (map (λ x. x.0) xs) +ℤ dot ws (map (λ x. x.1) xs) *ℤ z
dot_plus z [] xs = solve 1 (λ z. # 0 ≐ # 0 ⊕ # 0 ⊗ z) tt z
dot_plus z (w ∷ ws) [] = solve 1 (λ z. # 0 ≐ # 0 ⊕ # 0 ⊗ z) tt z
dot_plus z (w ∷ ws) (x ∷ xs) = ap (λ t. w *ℤ (x.0 +ℤ x.1 *ℤ z) +ℤ t) (dot_plus z ws xs)
    ∙ solve 6 (λ w x y z s t. w ⊗ (x ⊕ y ⊗ z) ⊕ (s ⊕ t ⊗ z) ≐ w ⊗ x ⊕ s ⊕ (w ⊗ y ⊕ t) ⊗ z) tt w x.0 x.1 z (dot ws (map (λ x. x.0) xs)) (dot ws (map (λ x. x.1) xs))
