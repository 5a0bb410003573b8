-- Each misprint breaks the conditions: what a correction says of it is a computed test. Assumes nothing.
use mathlib.Core.Path.{◌≡◌, refl}
use mathlib.Core.Bool.{Bool, true, ◌&&◌, not}
use mathlib.Core.List.{List, [], ◌∷◌, map}
use lib.Dec.{T, T_not}
use lib.IntN.{pos}
use Rattle.element_sibson.specs.Fraction.{ℚ, ◌≈◌, ◌≤ℚ◌, leℚ, whole, half, complement}
use Rattle.element_sibson.specs.Cubic.{Point, value, jet}
use Rattle.element_sibson.specs.Piece.{Piece, top, right, bottom, left, number, next, FourCubics, HalfDiagonal}
use Rattle.element_sibson.specs.Conditions.{Smooth}
use Rattle.element_sibson.specs.Element.{in_order, weighed, halved, transposed, flipped, mirrored}
use Rattle.element_nistir_6718.specs.Formulas.{twice, Formulas, printed}
use Rattle.element_nistir_6718.specs.Corrections.{Correction, corrections, term_at, replaced, corrected, formula, all_but}
use Rattle.element_nistir_6718.specs.Source.{doubled, cubics}
use Rattle.element_nistir_6718.specs.Misprints.{unit, Breaks, Shows, Each, Misprints}
use Rattle.integers.proofs.Deduce.{both}
use Rattle.element_sibson.proofs.Fractions.{≤_yes, ≤_test, ≤_of-≈, ≤_antisym, ≈_sym}
use Rattle.element_sibson.proofs.Finite.{and}
use Rattle.element_nistir_6718.proofs.Printed.{values, put_right_lem}

-- ---- equal fractions, and points of a half diagonal, as tests

abbrev equals : ℚ → ℚ → Bool
equals x y = leℚ x y && leℚ y x

equals_yes : (x y : ℚ) → T (equals x y) → x ≈ y
equals_yes x y t = let (a, b) = both (leℚ x y) (leℚ y x) t in ≤_antisym (≤_yes x y a) (≤_yes y x b)

equals_test : (x y : ℚ) → x ≈ y → T (equals x y)
equals_test x y e = and (leℚ x y) (leℚ y x) (≤_test (≤_of-≈ e)) (≤_test (≤_of-≈ (≈_sym e)))

abbrev between : ℚ → ℚ → ℚ → Bool
between x y z = leℚ x y && leℚ y z

abbrev on_half : Piece → Point → Bool
on_half top P = equals P.r (complement P.s) && between (whole (pos 0)) P.s half
on_half right P = equals P.r P.s && between half P.s (whole (pos 1))
on_half bottom P = equals P.r (complement P.s) && between half P.s (whole (pos 1))
on_half left P = equals P.r P.s && between (whole (pos 0)) P.s half

segment : (r s x y z : ℚ) → T (equals r s && between x y z) → (r ≈ s) × (x ≤ℚ y) × (y ≤ℚ z)
segment r s x y z t =
    let (a, u) = both (equals r s) (between x y z) t in let (b, c) = both (leℚ x y) (leℚ y z) u in (equals_yes r s a, ≤_yes x y b, ≤_yes y z c)

on_half_lem : (k : Piece) (P : Point) → T (on_half k P) → HalfDiagonal k P
unfolding HalfDiagonal
on_half_lem top P t = segment P.r (complement P.s) (whole (pos 0)) P.s half t
on_half_lem right P t = segment P.r P.s half P.s (whole (pos 1)) t
on_half_lem bottom P t = segment P.r (complement P.s) half P.s (whole (pos 1)) t
on_half_lem left P t = segment P.r P.s (whole (pos 0)) P.s half t

-- ---- a set that breaks the conditions there, as a test

abbrev agree : FourCubics → Piece → Point → Bool
agree S k P = equals (value (S k) P) (value (S (next k)) P)

abbrev breaks : FourCubics → Piece → Point → Bool
breaks S k P = on_half k P && not (agree S k P)

broken : (S : FourCubics) (k : Piece) (P : Point) → T (breaks S k P) → Breaks S k P
unfolding Smooth jet
broken S k P t = record { on_half_diagonal = on_half_lem k P on; apart = apart; unmet = λ C m. apart (m.smooth k P (on_half_lem k P on)).heights }
  where
    on : T (on_half k P)
    on = (both (on_half k P) (not (agree S k P)) t).0

    apart : ¬ (value (S k) P ≈ value (S (next k)) P)
    apart e = T_not (agree S k P) (both (on_half k P) (not (agree S k P)) t).1 (equals_test (value (S k) P) (value (S (next k)) P) e)

abbrev shows : Correction → Formulas → Bool
shows c F = breaks (cubics F (unit c.row)) c.diagonal c.point

shown : (c : Correction) (F : Formulas) → T (shows c F) → Shows c F
shown c F = broken (cubics F (unit c.row)) c.diagonal c.point

-- ---- every correction

abbrev all : {A : Type 0} → (A → Bool) → List A → Bool
all p [] = true
all p (x ∷ xs) = p x && all p xs

each : {A : Type 0} {P : A → Type 0} (p : A → Bool) → ((x : A) → T (p x) → P x) → (xs : List A) → T (all p xs) → Each P xs
each p f [] t = tt
each p f (x ∷ xs) t = let (a, b) = both (p x) (all p xs) t in (f x a, each p f xs b)

fit : map (λ c. term_at c printed) corrections ≡ map (λ c. c.as_printed ∷ []) corrections
unfolding printed corrections term_at
fit = refl

alone : Each (λ c. Shows c (all_but c)) corrections
unfolding next number in_order weighed halved transposed flipped mirrored value twice printed corrections replaced corrected formula all_but doubled cubics unit
alone = each (λ c. shows c (all_but c)) (λ c. shown c (all_but c)) corrections tt

together : Each (λ c. Shows c printed) corrections
unfolding next in_order weighed halved transposed flipped mirrored value twice printed corrections doubled cubics unit
together = each (λ c. shows c printed) (λ c. shown c printed) corrections tt

pub misprints : Misprints
unfolding corrections
misprints = record { pieces = refl; rows = refl; fit = fit; values = values; put_right = put_right_lem; alone = alone; together = together }
